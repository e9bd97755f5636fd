-- Laws on pieces laid into a buffer, one behind the other. Assumes nothing.
use Prim.Native.Nat.{ℕ, zero, suc, ◌+◌, ◌-◌, ◌/◌, ◌%◌, ◌≤◌, ◌<◌}
use mathlib.Core.Path.{◌≡◌, refl, sym, ap, ◌∙◌}
use mathlib.Core.Bool.{Bool, true, false, cond}
use mathlib.Core.List.{List, [], ◌∷◌, ◌++◌, append_assoc, append-nil}
use native.Mathlib.Numerals.{add-one}
use native.Mathlib.Omega.{arith}
use lib.ListN.{length, get_or, take, drop, set, drop_of_length-le, length-append, length-drop, length-set, take-append-drop}
use lib.Seq.{length-take-le, take_at, drop-append-add, drop-drop, set_split, drop-cons, lt-length-set, get_or-set_same, take-set-le, drop-set-lt}
use borrow.Rule.Slice.PartMut.{put_mid}
use Rattle.numbers.specs.Numbers.{inside, little_bytes, put_at, put_if}
use Rattle.numbers.specs.Buffers.{laid, laid_if}
use Rattle.numbers.proofs.Bytes.{ends_inside, lies_inside, little_length}

pub length_laid : {A : Type 0} (out : List A) (at : ℕ) (piece : List A) → at + length piece ≤ length out → length (laid out at piece) ≡ length out
unfolding laid
length_laid out at piece room = simp (length-append, length-drop, length-take-le at out (omega arith)) (omega arith)

pub laid_nil : {A : Type 0} (out : List A) (at : ℕ) → laid out at [] ≡ out
unfolding laid
laid_nil out at = let same : at + 0 ≡ at = omega arith in rw same (take-append-drop at out)

-- two pieces at once, or the second behind the first
pub laid_turn : {A : Type 0} (out : List A) (at : ℕ) (piece rest : List A) → at + length piece ≤ length out → laid out at (piece ++ rest) ≡ laid (laid out at piece) (at + length piece) rest
unfolding laid
laid_turn out at piece rest room =
    let front : length (take at out ++ piece) ≡ at + length piece = simp (length-append, length-take-le at out (omega arith)) in
    let tail : List _ = drop (at + length piece) out in
    let first : take at out ++ (piece ++ tail) ≡ (take at out ++ piece) ++ tail = sym (append_assoc (take at out) piece tail) in
    let kept : take (at + length piece) (take at out ++ (piece ++ tail)) ≡ take at out ++ piece = ap (take (at + length piece)) first ∙ take_at (take at out ++ piece) tail (at + length piece) front in
    let sum : at + length piece + length rest ≡ at + (length piece + length rest) = omega arith in
    let past : drop (at + length piece + length rest) (take at out ++ (piece ++ tail)) ≡ drop (at + (length piece + length rest)) out
    = ap (drop (at + length piece + length rest)) first
    ∙ (ap (λ (n : ℕ). drop (n + length rest) (take at out ++ piece ++ tail)) (sym front)
    ∙ (drop-append-add (take at out ++ piece) tail (length rest)
    ∙ (drop-drop (length rest) (at + length piece) out ∙ ap (λ (n : ℕ). drop n out) sum)))
    in
    rw (kept, past, length-append piece rest) (simp append_assoc)

pub laid_if_lem : {A : Type 0} (out : List A) (at : ℕ) (piece : List A) → at + length piece ≤ length out → laid_if out at piece ≡ laid out at piece
unfolding laid_if
laid_if_lem out at piece room = rw (lies_inside (length out) at (length piece) room)

pub laid_unless : {A : Type 0} (out : List A) (at : ℕ) (piece : List A) → inside (length out) at (length piece) ≡ false → laid_if out at piece ≡ out
unfolding laid_if
laid_unless out at piece over = rw over

-- a part of the buffer, as long as the piece, becomes the piece
pub copied : {A : Type 0} (out : List A) (at : ℕ) (piece : List A) → at + length piece ≤ length out
    → put_mid at (at + length piece - at) out piece ≡ laid_if out at piece
unfolding laid
copied out at piece room =
    let all : at + length piece - at ≡ length piece = omega arith in
    rw (all, drop-drop) (sym (laid_if_lem out at piece room))

-- the piece stands at the front
pub laid_front : {A : Type 0} (out piece : List A) (n : ℕ) → length piece ≡ n → take n (laid out 0 piece) ≡ piece
unfolding laid
laid_front out piece n long = take_at piece (drop (0 + length piece) out) n long

-- a buffer of the same length holds the piece and nothing else
pub laid_whole : {A : Type 0} (words buffer : List A) → length buffer ≡ length words → laid buffer 0 words ≡ words
unfolding laid
laid_whole words buffer same =
    let all : length buffer ≤ 0 + length words = omega arith in
    rw (drop_of_length-le buffer all) (append-nil words)

pub set_laid : {A : Type 0} (out : List A) (at : ℕ) (v : A) → at < length out → set out at v ≡ laid out at (v ∷ [])
unfolding laid
set_laid out at v h = let one : at + 1 ≡ suc at = omega arith in rw one (set_split out at v h)

pub laid_start : {A : Type 0} (out : List A) (at : ℕ) (piece : List A) → laid out at piece ≡ laid out (at + 0) piece
laid_start out at piece = let same : at + 0 ≡ at = omega arith in rw same

pub laid_end : {A : Type 0} (out : List A) (at : ℕ) (piece : List A) (i : ℕ) → length piece ≤ i → laid out at (drop i piece) ≡ out
laid_end out at piece i end = rw (drop_of_length-le piece end) (laid_nil out at)

-- ---- pieces laid one element at a time

-- from the left
pub laid_cons : {A : Type 0} (out : List A) (at : ℕ) (x : A) (rest : List A) → at < length out → laid out at (x ∷ rest) ≡ laid (set out at x) (at + 1) rest
laid_cons out at x rest room = rw (set_laid out at x room) (laid_turn out at (x ∷ []) rest (omega arith))

pub laid_element : {A : Type 0} (out : List A) (at : ℕ) (piece : List A) (i : ℕ) (d : A) → i < length piece → at + i < length out
    → laid out (at + i) (drop i piece) ≡ laid (set out (at + i) (get_or piece i d)) (at + (i + 1)) (drop (i + 1) piece)
laid_element out at piece i d more room =
    let sum : at + i + 1 ≡ at + (i + 1) = omega arith in
    let next : drop i piece ≡ get_or piece i d ∷ drop (i + 1) piece = rw (add-one i, drop-cons piece i d more) in
    rw (next, laid_cons out (at + i) (get_or piece i d) (drop (i + 1) piece) room, sum)

-- from the right: a last element that is in place already
pub laid_last : {A : Type 0} (out : List A) (at : ℕ) (piece : List A) (x : A) → at + length piece < length out
    → laid out at (piece ++ (x ∷ [])) ≡ laid (set out (at + length piece) x) at piece
unfolding laid
laid_last out at piece x room =
    let q : ℕ = at + length piece in
    let front : take at (set out q x) ≡ take at out = take-set-le at out q x (omega arith) in
    let back : drop q (set out q x) ≡ x ∷ drop (suc q) out =
    drop-cons (set out q x) q x (lt-length-set out q x room)
    ∙ ap (λ v. v ∷ drop (suc q) (set out q x)) (get_or-set_same out q x x room)
    ∙ ap (λ l. x ∷ l) (drop-set-lt (suc q) out q x (omega arith))
    in
    let long : at + length (piece ++ (x ∷ [])) ≡ suc q = rw (length-append piece (x ∷ [])) (omega arith) in
    rw (front, back, long, append_assoc piece (x ∷ []) (drop (suc q) out))

-- a number's bytes put one by one are a piece
pub put_laid : (place n v : ℕ) (bytes : List ℕ) → place + n ≤ length bytes → put_at place n v bytes ≡ laid bytes place (little_bytes n v)
unfolding put_at little_bytes
put_laid place zero v bytes room = sym (laid_nil bytes place)
put_laid place (suc n) v bytes room =
    let byte = set bytes place (v % 256) in
    let rest : suc place + n ≤ length byte = rw length-set (omega arith) in
    let turn = laid_cons bytes place (v % 256) (little_bytes n (v / 256)) (omega arith) in
    put_laid (suc place) n (v / 256) byte rest ∙ sym (rw (add-one place) at turn)

-- and so where they fit
pub put_if_laid : (place n v : ℕ) (bytes : List ℕ) → put_if place n v bytes ≡ laid_if bytes place (little_bytes n v)
unfolding put_if laid_if
put_if_laid place n v bytes = rw (little_length n v) (go (inside (length bytes) place n) refl)
  where
    go : (fits : Bool) → inside (length bytes) place n ≡ fits → cond fits (put_at place n v bytes) bytes ≡ cond fits (laid bytes place (little_bytes n v)) bytes
    go true e = put_laid place n v bytes (ends_inside (length bytes) place n e)
    go false e = refl
