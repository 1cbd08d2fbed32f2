-- Numbers in four digits, printed and read; elevations in two's complement.
use mathlib.Core.Path.{◌≡◌, refl, ◌∙◌, ap}
use mathlib.Core.Bool.{Bool, true, false, cond}
use mathlib.Core.List.{List}
use Prim.Native.Nat.{ℕ, zero, suc, ◌+◌, ◌-◌, ◌*◌, ◌/◌, ◌%◌, ◌≤◌, ◌<◌}
use native.Mathlib.Omega.{arith}
use native.Mathlib.Decide.{dec_lt}
use lib.Dec.{ltb, le→leb, leb→le}
use lib.IntN.{ℤ, pos, negsuc}
use lib.Signed.{◌≤ℤ◌}
use lib.ListN.{get_or}
use borrow.Author.Tests.{le-leb, lt-leb, lt-ltb, le-ltb}
use Rattle.grid.specs.Sheet.{void, top, IsElevation}
use Rattle.grid.specs.Frames.{hex_value, number4, from_twos, to_twos, upper_digit, hex_text}
use Rattle.grid.specs.Writing.{raised}
use Rattle.text_laws.proofs.Values.{below_digits, of_digit, below_upper, of_upper, below_lower, of_lower, above_lower}

-- ---- digits

-- the digit d of four, from the left
abbrev pub digit_of : ℕ → ℕ → ℕ
digit_of v zero = v / 16 / 16 / 16 % 16
digit_of v (suc zero) = v / 16 / 16 % 16
digit_of v (suc (suc zero)) = v / 16 % 16
digit_of v (suc (suc (suc d))) = v % 16

pub digit_small : (v d : ℕ) → digit_of v d < 16
digit_small v zero = omega arith
digit_small v (suc zero) = omega arith
digit_small v (suc (suc zero)) = omega arith
digit_small v (suc (suc (suc d))) = omega arith

pub hex_at : (v d : ℕ) → d < 4 → get_or (hex_text 4 v) d 0 ≡ upper_digit (digit_of v d)
unfolding hex_text
hex_at v zero h = refl
hex_at v (suc zero) h = refl
hex_at v (suc (suc zero)) h = refl
hex_at v (suc (suc (suc zero))) h = refl
hex_at v (suc (suc (suc (suc d)))) h = absurd (omega arith)

-- a printed digit is read as its value
pub value_upper : (d : ℕ) → d < 16 → hex_value (upper_digit d) ≡ d
unfolding upper_digit
value_upper d h = go (dec_lt d 10)
  where
    go : Dec (d < 10) → hex_value (cond (ltb d 10) (48 + d) (55 + d)) ≡ d
    go (yes l) = rw (lt-ltb d 10 l) (of_digit (48 + d) (omega arith) (omega arith) ∙ omega arith)
    go (no l) =
        rw (le-ltb d 10 (let q : 10 ≤ d = omega arith in q)) (of_upper (55 + d) (omega arith) (omega arith) ∙ omega arith)

pub upper_no_feed : (d : ℕ) → upper_digit d ≡ 10 → ⊥
unfolding upper_digit
upper_no_feed d e = go (ltb d 10) e
  where
    go : (t : Bool) → cond t (48 + d) (55 + d) ≡ 10 → ⊥
    go true q = omega arith
    go false q = omega arith

-- a digit that is read is printed as its upper case
pub printed_again : (b : ℕ) → hex_value b < 16 → upper_digit (hex_value b) ≡ raised b
unfolding upper_digit raised
printed_again b h = digits (dec_lt b 48) (dec_lt 57 b) (dec_lt b 65) (dec_lt 70 b) (dec_lt b 97) (dec_lt 102 b)
  where
    low : 48 ≤ b → b ≤ 57 → upper_digit (hex_value b) ≡ raised b
    low p q =
        let small : b - 48 < 10 = omega arith in
        let early : b < 97 = omega arith in
        rw (of_digit b p q, lt-ltb (b - 48) 10 small, lt-leb 97 b early) (omega arith)

    upper : 65 ≤ b → b ≤ 70 → upper_digit (hex_value b) ≡ raised b
    upper p q =
        let large : 10 ≤ b - 55 = omega arith in
        let early : b < 97 = omega arith in
        rw (of_upper b p q, le-ltb (b - 55) 10 large, lt-leb 97 b early) (omega arith)

    lower : 97 ≤ b → b ≤ 102 → upper_digit (hex_value b) ≡ raised b
    lower p q =
        let large : 10 ≤ b - 87 = omega arith in
        let letter : b ≤ 122 = omega arith in
        rw (of_lower b p q, le-ltb (b - 87) 10 large, le-leb 97 b p, le-leb b 122 letter) (omega arith)

    none : hex_value b ≡ 16 → upper_digit (hex_value b) ≡ raised b
    none e = let z : ⊥ = omega arith in absurd z

    digits : Dec (b < 48) → Dec (57 < b) → Dec (b < 65) → Dec (70 < b) → Dec (b < 97) → Dec (102 < b) →
        upper_digit (hex_value b) ≡ raised b
    digits (yes l) _ _ _ _ _ = none (below_digits b l)
    digits (no l) (no m) _ _ _ _ = low (omega arith) (omega arith)
    digits (no l) (yes m) (yes n) _ _ _ = none (below_upper b m n)
    digits (no l) (yes m) (no n) (no o) _ _ = upper (omega arith) (omega arith)
    digits (no l) (yes m) (no n) (yes o) (yes p) _ = none (below_lower b o p)
    digits (no l) (yes m) (no n) (yes o) (no p) (no q) = lower (omega arith) (omega arith)
    digits (no l) (yes m) (no n) (yes o) (no p) (yes q) = none (above_lower b q)

-- ---- numbers

-- four printed digits are read as their number
pub reads_number : (text : List ℕ) (i v : ℕ) → v < 65536 → ((d : ℕ) → d < 4 → get_or text (i + d) 0 ≡ upper_digit (digit_of v d)) →
    number4 text i ≡ v
unfolding number4
reads_number text i v h p =
    let q : (d : ℕ) → d < 4 → hex_value (get_or text (i + d) 0) ≡ digit_of v d =
    λ d l. ap hex_value (p d l) ∙ value_upper (digit_of v d) (digit_small v d) in
    let here : i ≡ i + 0 = omega arith in
    let a : hex_value (get_or text i 0) ≡ digit_of v 0 = ap (λ (x : ℕ). hex_value (get_or text x 0)) here ∙ q 0 (omega arith) in
    rw (a, q 1 (omega arith), q 2 (omega arith), q 3 (omega arith)) make
  where
    make : 4096 * digit_of v 0 + 256 * digit_of v 1 + 16 * digit_of v 2 + digit_of v 3 ≡ v
    make = omega arith

-- and a number that is read has the digits that are read
module _ (a b c d : ℕ) (ha : a < 16) (hb : b < 16) (hc : c < 16) (hd : d < 16) where
  abbrev made : ℕ
  made = 4096 * a + 256 * b + 16 * c + d

  made_small : made < 65536
  made_small = omega arith

  made_0 : digit_of made 0 ≡ a
  made_0 = omega arith

  made_1 : digit_of made 1 ≡ b
  made_1 = omega arith

  made_2 : digit_of made 2 ≡ c
  made_2 = omega arith

  made_3 : digit_of made 3 ≡ d
  made_3 = omega arith

module _ (text : List ℕ) (i : ℕ) (h : (k : ℕ) → k < 4 → hex_value (get_or text (i + k) 0) < 16) where
  first_at : hex_value (get_or text i 0) ≡ hex_value (get_or text (i + 0) 0)
  first_at = ap (λ (x : ℕ). hex_value (get_or text x 0)) (let e : i ≡ i + 0 = omega arith in e)

  h₀ : hex_value (get_or text i 0) < 16
  h₀ = let e = first_at in let l = h 0 (omega arith) in omega arith

  h₁ : hex_value (get_or text (i + 1) 0) < 16
  h₁ = h 1 (omega arith)

  h₂ : hex_value (get_or text (i + 2) 0) < 16
  h₂ = h 2 (omega arith)

  h₃ : hex_value (get_or text (i + 3) 0) < 16
  h₃ = h 3 (omega arith)

  pub number_small : number4 text i < 65536
  unfolding number4
  number_small = made_small (hex_value (get_or text i 0)) _ _ _ h₀ h₁ h₂ h₃

  pub read_digit : (d : ℕ) → d < 4 → digit_of (number4 text i) d ≡ hex_value (get_or text (i + d) 0)
  unfolding number4
  read_digit zero l = made_0 (hex_value (get_or text i 0)) _ _ _ h₀ h₁ h₂ h₃ ∙ first_at
  read_digit (suc zero) l = made_1 (hex_value (get_or text i 0)) _ _ _ h₀ h₁ h₂ h₃
  read_digit (suc (suc zero)) l = made_2 (hex_value (get_or text i 0)) _ _ _ h₀ h₁ h₂ h₃
  read_digit (suc (suc (suc zero))) l = made_3 (hex_value (get_or text i 0)) _ _ _ h₀ h₁ h₂ h₃
  read_digit (suc (suc (suc (suc d)))) l = absurd (omega arith)

-- ---- two's complement

pub twos_small : (z : ℤ) → IsElevation z → to_twos z < 65536
unfolding to_twos top
twos_small (pos n) h = let l = leb→le n 32767 h.1.le in omega arith
twos_small (negsuc n) h = omega arith

pub twos_back : (z : ℤ) → IsElevation z → from_twos (to_twos z) ≡ z
unfolding to_twos from_twos void top
twos_back (pos n) h = rw (lt-ltb n 32768 (let l = leb→le n 32767 h.1.le in omega arith))
twos_back (negsuc n) h =
    let l = leb→le n 32767 h.0.le in
    let high : 32768 ≤ 65535 - n = omega arith in
    let same : 65535 - (65535 - n) ≡ n = omega arith in
    rw (le-ltb (65535 - n) 32768 high) (ap negsuc same)

module _ (n : ℕ) where
  pub twos_forth : n < 65536 → to_twos (from_twos n) ≡ n
  unfolding to_twos from_twos
  twos_forth h = go (dec_lt n 32768)
    where
      go : Dec (n < 32768) → to_twos (cond (ltb n 32768) (pos n) (negsuc (65535 - n))) ≡ n
      go (yes l) = rw (lt-ltb n 32768 l)
      go (no l) = rw (le-ltb n 32768 (let q : 32768 ≤ n = omega arith in q)) (omega arith)

  -- what is read has 16 bits
  pub from_sixteen : IsElevation (from_twos n)
  unfolding from_twos void top
  from_sixteen = go (dec_lt n 32768)
    where
      go : Dec (n < 32768) → (negsuc 32767 ≤ℤ cond (ltb n 32768) (pos n) (negsuc (65535 - n)))
          × (cond (ltb n 32768) (pos n) (negsuc (65535 - n)) ≤ℤ pos 32767)
      go (yes l) = rw (lt-ltb n 32768 l) (record { le = tt }, record { le = le→leb n 32767 (omega arith) })
      go (no l) =
          rw (le-ltb n 32768 (let q : 32768 ≤ n = omega arith in q))
          (record { le = le→leb (65535 - n) 32767 (omega arith) }, record { le = tt })
