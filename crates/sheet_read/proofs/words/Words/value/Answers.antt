-- `Words::value` meets its contract: the next line is taken where it is the address's. Assumes nothing.
use Rattle.std.proofs.Common.{arith, ◌≡◌, true, refl, sym, take, length-drop}
use borrow.Author.Tests.{ne_eqb}
use Rattle.texts.specs.Fields.{begins}
use Rattle.sheet.specs.Lines.{form, width}
use Rattle.sheet.specs.Reading.{value}
use Rattle.sheet.specs.declared.line.Line.TheVariants.{Word}
use Rattle.sheet.proofs.LineLaws.{line_room}
use Rattle.sheet_read.proofs.Stages.{value_none, left_none, no_word, other_word, zero_word, word_value, word_left}
use Rattle.sheet_read.proofs.words.Words.value.Goals.{In-Some, After-number, After-number-value}
use Rattle.sheet_read.proofs.words.Words.value.Goals as goal

-- the line, and its numbers
begun : (c : In-Some) → begins (form Word) c.args.self.now.text.now ≡ true
begun c = rw (c.in-Some.ensures.0, c.in-Some.ensures.1) at c.in-Some.row.begun

own : (c : After-number) → c.number.result ≡ value Word 0 (take (width Word) c.args.self.now.text.now)
own c = rw (c.in-Some.ensures.0, c.in-Some.ensures.1) at c.number.ensures

held : (c : After-number-value) → c.number-value.result ≡ value Word 1 (take (width Word) c.args.self.now.text.now)
held c = rw (c.in-Some.ensures.0, c.in-Some.ensures.1) at c.number-value.ensures

pub returns-in_default : goal.returns-in_default
returns-in_default c =
    let none = no_word c.args.self.now.text.now c.args.address c.in_default.ensures in
    record { value = sym (value_none _ _ none); left = sym (left_none _ _ none); count = omega arith }

pub returns-then-number-address : goal.returns-then-number-address
returns-then-number-address c =
    let line = begun (goal.at.returns-then-number-address c).In-Some in
    let none = other_word _ _ line _ _ (own (goal.at.returns-then-number-address c).After-number) refl c.if-number-address.true in
    record { value = sym (value_none _ _ none); left = sym (left_none _ _ none); count = omega arith }

pub returns-then-value-eq0 : goal.returns-then-value-eq0
returns-then-value-eq0 c =
    let line = begun (goal.at.returns-then-value-eq0 c).In-Some in
    let none = zero_word _ _ line _ _ (own (goal.at.returns-then-value-eq0 c).After-number) (held (goal.at.returns-then-value-eq0 c).After-number-value) c.if-number-address.false c.if-value-eq0.true in
    record { value = sym (value_none _ _ none); left = sym (left_none _ _ none); count = omega arith }

pub invariant_of-self : goal.invariant_of-self
invariant_of-self c =
    let old = c.args.self.now.room in
    let room = line_room Word _ (begun (goal.at.invariant_of-self c).In-Some) in
    record { room = rw (c.behind-self.ensures, c.in-Some.ensures.0, c.in-Some.ensures.1) (omega (arith, length-drop (width Word) c.args.self.now.text.now)) }

pub returns : goal.returns
returns c =
    let line = begun (goal.at.returns c).In-Some in
    let at = own (goal.at.returns c).After-number in
    let value = held (goal.at.returns c).After-number-value in
    record {
      value = word_value _ _ line _ _ at value c.if-number-address.false c.if-value-eq0.false;
      left = rw (c.behind-self.ensures, c.in-Some.ensures.0, c.in-Some.ensures.1) (word_left _ _ line _ _ at value c.if-number-address.false c.if-value-eq0.false);
      count = rw (ne_eqb _ _ c.if-value-eq0.false);
    }
