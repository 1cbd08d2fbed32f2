-- A number is stored from its last digit on.
use Rattle.std.proofs.Common.{◌≡◌, ℕ, suc, ◌+◌, ◌-◌, ◌/◌, ◌%◌, ◌<◌, ◌≤◌, List, arith, ap, sym, ◌∙◌, refl}
use Rattle.std.proofs.lemmas.List.Edits.{sets}
use lib.ListN.{set}
use Rattle.grid.specs.Frames.{upper_digit, hex_text}
use Rattle.text_laws.proofs.Digits.{length_hex, last_digit, no_digit}
use Rattle.text_lines.specs.Put.{Put}

-- the last of the digits that are left, and then the others
pub digit_stored : (left v : ℕ) (out : List ℕ) (from d : ℕ) → 0 < left → d ≡ upper_digit (v % 16)
    → sets (set out (from + (left - 1)) d) from (hex_text (left - 1) (v / 16)) ≡ sets out from (hex_text left v)
digit_stored left v out from d h e =
    let j : ℕ = left - 1 in
    let n : suc j ≡ left = omega arith in
    ap (λ (x : ℕ). sets (set out (from + j) x) from (hex_text j (v / 16))) e
    ∙ last_digit j v out from
    ∙ ap (λ (x : ℕ). sets out from (hex_text x v)) n

-- no digit is left
pub digits_stored : (k v left rest from : ℕ) (out₀ out : List ℕ) → left ≤ 0
    → sets out from (hex_text left rest) ≡ sets out₀ from (hex_text k v) → Put (hex_text k v) k from out₀ out (from + k)
digits_stored k v left rest from out₀ out h e =
    let z : 0 ≡ left = omega arith in
    record {
      width_of_text = length_hex k v;
      next_place = refl;
      stored =
          ap (λ (t : List ℕ). sets out from t) (sym (no_digit rest))
          ∙ ap (λ (n : ℕ). sets out from (hex_text n rest)) z
          ∙ e;
    }
