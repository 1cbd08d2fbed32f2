-- What stands in a buffer that reads fill, and what that says of the bytes that a reader has.
use Rattle.std.proofs.Common.{◌≡◌, ℕ, ◌+◌, ◌<◌, ◌≤◌, List, [], ◌++◌, Some, None, IfSome, length, take, inl, inr, arith, sym, ap, ◌∙◌, subst, append-nil, length-take-le, take_all}
use Rattle.std.specs.declared.option.Option.{Option}
use Rattle.std.proofs.lemmas.Bool.{cases_lt}
use Rattle.std.specs.Io.KnownBytes.{Consumes, IsAtEnd}
use lib.Seq.{take-append-add, take-append-le, take_at}
use borrow.Rule.Slice.PartMut.{put_mid, post_of}

-- a read put n bytes behind those that came before
pub read_behind : (done k n : ℕ) (xs ys : List ℕ) → done ≤ length xs → n ≤ length ys
    → take (done + n) (put_mid done k xs ys) ≡ take done xs ++ take n ys
read_behind done k n xs ys within fits =
    let rest = ys ++ post_of done k xs in
    ap (λ m. take (m + n) (take done xs ++ rest)) (sym (length-take-le done xs within))
    ∙ take-append-add (take done xs) rest n
    ∙ ap (λ l. take done xs ++ l) (take-append-le n ys (post_of done k xs) fits)

-- bytes that fill a buffer, or end the input, are the first that the reader had
first_bytes : (xs rest got : List ℕ) (room : ℕ) → length got ≤ room → xs ≡ got ++ rest → (length got < room → rest ≡ [])
    → take room xs ≡ got
first_bytes xs rest got room fits gave end =
    elim (cases_lt (length got) room) [
      | inl short ↦ ap (take room) (gave ∙ ap (λ l. got ++ l) (end short) ∙ append-nil got) ∙ take_all room got fits
      | inr full ↦ ap (take room) gave ∙ take_at got rest room (omega (arith, fits, full))
    ]

-- so what holds of them holds of the first bytes of an input that is known
pub of_input : (a b : Option (List ℕ)) (text : List ℕ) (n room : ℕ) (P : List ℕ → Type 0) → length text ≡ room → n ≤ length text
    → Consumes a b (take n text) → (n < length text → IsAtEnd b) → P (take n text) → IfSome a (λ xs. P (take room xs))
of_input None b text n room P size fits gave end holds = tt
of_input (Some xs) None text n room P size fits gave end holds = absurd gave
of_input (Some xs) (Some rest) text n room P size fits gave end holds =
    let long = length-take-le n text fits in
    subst P (sym (first_bytes xs rest (take n text) room (omega (arith, long, size, fits)) gave (λ short. end (omega (arith, long, size, short))))) holds
