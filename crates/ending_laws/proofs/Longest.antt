-- A walk back from both ends counts the cells that are alike. The part that it cuts off the first list is the longest ending that both
-- lists share: a longer one would have the two cells alike at which the walk stopped.
use mathlib.Core.Path.{◌≡◌, refl, sym, ◌∙◌, ap}
use mathlib.Core.Bool.{Bool, false, not}
use mathlib.Core.List.{List, [], ◌∷◌, ◌++◌}
use Prim.Native.Nat.{ℕ, min, ◌+◌, ◌-◌, ◌*◌, ◌≤◌, ◌<◌}
use native.Mathlib.Omega.{arith}
use native.Mathlib.Decide.{dec_le}
use lib.Dec.{eqb}
use lib.ListN.{length, get_or, drop, take, length-append, length-drop, take-append-drop}
use lib.Seq.{get_or-drop, get_or-append-add, ext_get_or, drop-length}
use borrow.Author.Rules.{part_to_end}
use borrow.Author.Tests.{eq-eqb, ne_eqb, eqb-true}
use Rattle.grid.specs.Below.{first_below}
use Rattle.grid.specs.Endings.{from_end, shared_length, shared_ending, EndsWith, LongestShared, EndApart}
use Rattle.grid_laws.proofs.Tests.{not_is_false, true_false}
use Rattle.grid_laws.proofs.Below.{first_is, first_none, first_≤, first_before, first_found}

-- the last k cells are alike
abbrev pub AlikeTo : List ℕ → List ℕ → ℕ → Type 0
AlikeTo l m k = (j : ℕ) → j < k → from_end l j ≡ from_end m j

module _ (l m : List ℕ) where
  differ : ℕ → Bool
  differ k = not (eqb (from_end l k) (from_end m k))

  alike_no : (k : ℕ) → from_end l k ≡ from_end m k → differ k ≡ false
  unfolding differ
  alike_no k e = ap not (eq-eqb (from_end l k) (from_end m k) e)

  no_alike : (k : ℕ) → differ k ≡ false → from_end l k ≡ from_end m k
  unfolding differ
  no_alike k e = eqb-true (from_end l k) (from_end m k) (not_is_false (eqb (from_end l k) (from_end m k)) e)

  shared_is : shared_length l m ≡ first_below (min (length l) (length m)) differ
  unfolding shared_length differ
  shared_is = refl

  -- where the walk stops: at two cells that differ, or at the beginning of a list
  pub stops_at : (k : ℕ) → k < min (length l) (length m) → AlikeTo l m k → (from_end l k ≡ from_end m k → ⊥) → k ≡ shared_length l m
  unfolding differ
  stops_at k h a f =
      sym (shared_is ∙ first_is (min (length l) (length m)) differ k h (ap not (ne_eqb (from_end l k) (from_end m k) f))
      (λ j i. alike_no j (a j i)))

  pub stops_after : (k : ℕ) → k ≡ min (length l) (length m) → AlikeTo l m k → k ≡ shared_length l m
  stops_after k e a = e ∙ sym (shared_is ∙ first_none (min (length l) (length m)) differ (λ j i. alike_no j (a j (omega arith))))

  shared_≤ : shared_length l m ≤ min (length l) (length m)
  shared_≤ = rw shared_is (first_≤ (min (length l) (length m)) differ)

  shared_alike : AlikeTo l m (shared_length l m)
  shared_alike j h = no_alike j (first_before (min (length l) (length m)) differ j (rw shared_is at h))

  shared_differ : shared_length l m < min (length l) (length m) → from_end l (shared_length l m) ≡ from_end m (shared_length l m) → ⊥
  shared_differ h e =
      true_false {A = ⊥}
      (first_found (min (length l) (length m)) differ (rw shared_is at h))
      (rw shared_is at (alike_no (shared_length l m) e))

-- ---- endings

-- counted from the end, the cells of an ending are those of the list
from_end_of : (rest s : List ℕ) (k : ℕ) → k < length s → from_end (rest ++ s) k ≡ from_end s k
from_end_of rest s k h =
    let q = length-append rest s in
    let e : length (rest ++ s) - (k + 1) ≡ length rest + (length s - (k + 1)) = omega arith in
    ap (λ (i : ℕ). get_or (rest ++ s) i 0) e ∙ get_or-append-add rest s (length s - (k + 1)) 0

from_end_lem : {l s : List ℕ} → EndsWith l s → (k : ℕ) → k < length s → from_end l k ≡ from_end s k
from_end_lem {s = s} (rest, e) k h = ap (λ (x : List ℕ). from_end x k) (sym e) ∙ from_end_of rest s k h

place_of_lem : (a n i : ℕ) → n ≤ a → i < n → a - (n - (i + 1) + 1) ≡ a - n + i
place_of_lem a n i h l = omega arith

place_before : (n i : ℕ) → i < n → n - (i + 1) < n
place_before n i l = omega arith

-- two lists whose last n cells are alike end alike
same_ending : (l m : List ℕ) (n : ℕ) → n ≤ length l → n ≤ length m → AlikeTo l m n → drop (length l - n) l ≡ drop (length m - n) m
same_ending l m n hl hm a =
    let p = length-drop (length l - n) l in
    let q = length-drop (length m - n) m in
    ext_get_or 0 (drop (length l - n) l) (drop (length m - n) m) (omega arith)
    (λ i h.
    let k : i < n = omega arith in
    let b = a (n - (i + 1)) (place_before n i k) in
    let u : length l - (n - (i + 1) + 1) ≡ length l - n + i = place_of_lem (length l) n i hl k in
    let v : length m - (n - (i + 1) + 1) ≡ length m - n + i = place_of_lem (length m) n i hm k in
    get_or-drop (length l - n) l i 0
    ∙ ap (λ (j : ℕ). get_or l j 0) (sym u) ∙ b ∙ ap (λ (j : ℕ). get_or m j 0) v
    ∙ sym (get_or-drop (length m - n) m i 0))

pub is_longest : (l m : List ℕ) → LongestShared l m (shared_ending l m)
unfolding shared_ending
is_longest l m =
    let n = shared_length l m in
    let h = shared_≤ l m in
    let hl : n ≤ length l = omega arith in
    let hm : n ≤ length m = omega arith in
    record {
      ends_first = (take (length l - n) l, take-append-drop (length l - n) l);
      ends_second = (
        take (length m - n) m,
        ap (λ (x : List ℕ). take (length m - n) m ++ x) (same_ending l m n hl hm (shared_alike l m)) ∙ take-append-drop (length m - n) m,
      );
      longest = λ other e f. at_most other e f (dec_le (length other) n);
    }
  where
    at_most : (other : List ℕ) → EndsWith l other → EndsWith m other → Dec (length other ≤ shared_length l m) →
        length other ≤ length (drop (length l - shared_length l m) l)
    at_most other e f (yes h) = let p = length-drop (length l - shared_length l m) l in let s = shared_≤ l m in omega arith
    at_most other e f (no h) =
        let a = ap length e.1 in
        let b = ap length f.1 in
        let p = length-append e.0 other in
        let q = length-append f.0 other in
        let k = shared_length l m in
        let i : k < length other = omega arith in
        absurd (shared_differ l m (omega arith) (from_end_lem e k i ∙ sym (from_end_lem f k i)))

-- and it is so of the second list and the first
pub turned : {l m s : List ℕ} → LongestShared l m s → LongestShared m l s
turned h = record { ends_first = h.ends_second; ends_second = h.ends_first; longest = λ other e f. h.longest other f e }

-- the last cell of a shared ending is that of both lists
pub apart_none : (l m s : List ℕ) → EndsWith l s → EndsWith m s → EndApart l m → s ≡ []
apart_none l m [] e f a = refl
apart_none l m (x ∷ s) e f a =
    let one : 0 < 1 = omega arith in
    let some : 0 < length (x ∷ s) = omega arith in
    let p = sym (from_end_lem a.ends_first 0 one) ∙ from_end_lem e 0 some in
    let q = sym (from_end_lem a.ends_second 0 one) ∙ from_end_lem f 0 some in
    absurd (a.differ (p ∙ sym q))

-- ---- the part of the first list

pub part_is : (l m : List ℕ) (k : ℕ) → k ≡ shared_length l m → drop (length l - k) l ≡ shared_ending l m
unfolding shared_ending
part_is l m k e = ap (λ (n : ℕ). drop (length l - n) l) e

-- where the part from the place a on lies
pub part_byte : (l : List ℕ) (a o : ℕ) → a ≤ length l → a * 4 + o ≡ o + 4 * (length l - length (take (length l - a) (drop a l)))
part_byte l a o h = let p = length-drop a l in rw (part_to_end l a) (omega arith)

-- the empty part at the end of a list
pub no_part : (l : List ℕ) → take (length l - length l) (drop (length l) l) ≡ []
no_part l = part_to_end l (length l) ∙ drop-length l

-- an ending is what is left after as many places as stand before it
pub ending_is_rest : {l s : List ℕ} → EndsWith l s → (length s ≤ length l) × (drop (length l - length s) l ≡ s)
ending_is_rest {l} {s} (rest, e) =
    let p = ap length e in
    let q = length-append rest s in
    let k : length l - length s ≡ length rest = omega arith in
    (omega arith, ap (λ (n : ℕ). drop n l) k ∙ ap (drop (length rest)) (sym e) ∙ drop_append rest s)
  where
    drop_append : (r t : List ℕ) → drop (length r) (r ++ t) ≡ t
    drop_append [] t = refl
    drop_append (x ∷ r) t = drop_append r t
