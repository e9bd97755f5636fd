-- `print` meets its contract: the text is as long as was counted, and is laid where it fits. Assumes nothing.
use Prim.Native.Nat.{ℕ, ◌/◌}
use mathlib.Core.Path.{◌≡◌, sym, ◌∙◌, ap}
use mathlib.Core.List.{List}
use native.Mathlib.Omega.{arith}
use lib.ListN.{length}
use Rattle.state_words.proofs.Laws.{good_fields}
use Rattle.instructions.specs.Instruction.{instruction_words}
use Rattle.sheet.specs.Lent.{Buffers, buffers_in}
use Rattle.sheet.specs.Sheets.{text, saved_of}
use Rattle.sheet.proofs.TestedLaws.{Passes, passes}
use Rattle.sheet_write.specs.Laying.{text_length}
use Rattle.sheet_write.specs.Values.{nonzeros}
use Rattle.sheet_write.proofs.Answers.{too_long, done}
use Rattle.sheet_write.proofs.Apart.{lent}
use Rattle.sheet_write.proofs.Sizes.{nonzeros_most, text_size}
use Rattle.sheet_write.proofs.text.print.Goals as goal

-- the count is the text's length
long : (lent : Buffers) → Passes lent → (found counted : ℕ) → found ≡ nonzeros (length lent.bytes / 8) lent.bytes
    → counted ≡ text_length (length lent.pages) found (length lent.words / instruction_words) → counted ≡ length (text (saved_of lent))
long lent ready found counted found_is counted_is =
    counted_is
    ∙ ap (λ (values : ℕ). text_length (length lent.pages) values (length lent.words / instruction_words)) found_is
    ∙ sym (text_size lent (good_fields _ ready.state) ready.list.whole)

pub text_length-long-requires : goal.text_length-long-requires
text_length-long-requires c =
    let ready = passes (buffers_in c.args.parts) c.requires in
    let pages = ready.list.few in
    let whole = ready.list.whole in
    let most = nonzeros_most (length c.args.parts.bytes.now / 8) c.args.parts.bytes.now in
    let found = c.nonzero.ensures in
    (pages, omega arith, ready.few)

pub returns-then-text-long : goal.returns-then-text-long
returns-then-text-long c =
    let lent = buffers_in c.args.parts in
    too_long _ _ _ (long lent (passes lent c.requires) _ _ c.nonzero.ensures c.text_length-long.ensures) (omega arith)

pub lay-requires : goal.lay-requires
lay-requires c =
    let given = buffers_in c.args.parts in
    let ready = passes given c.requires in
    let long-is = long given ready _ _ c.nonzero.ensures c.text_length-long.ensures in
    let fits = c.if-text-long.false in
    record {
      state_len = (good_fields _ ready.state, lent _ _ ready.list);
      words_in_bounds = omega arith;
    }

pub returns : goal.returns
returns c =
    let lent = buffers_in c.args.parts in
    done _ _ _ (long lent (passes lent c.requires) _ _ c.nonzero.ensures c.text_length-long.ensures) _ (omega arith) c.lay.ensures
