-- Cutting a list of receivers at starts, place by place; what the walk then finds are the watersheds.
use mathlib.Core.Path.{◌≡◌, sym, ◌∙◌, ap, subst}
use mathlib.Core.Bool.{true, cond}
use mathlib.Core.List.{List, ◌++◌}
use Prim.Native.Nat.{ℕ, ◌+◌, ◌-◌, ◌≤◌, ◌<◌}
use native.Mathlib.Omega.{arith}
use native.Mathlib.Decide.{ℕ_discrete}
use lib.Dec.{ltb}
use lib.ListN.{length, get_or, take, drop, set, length-set}
use lib.Seq.{get_or-set_same, get_or-set_other, set-get_or, take_at}
use borrow.Author.Tests.{le-ltb, lt-ltb}
use Rattle.grid.specs.declared.Grid.{Grid}
use Rattle.grid.specs.Below.{table}
use Rattle.grid.specs.Sheet.{size}
use Rattle.grid.specs.Routes.{first_endless, first_bad_start, watersheds}
use Rattle.grid_laws.proofs.Tests.{cond_true, cond_false}
use Rattle.grid_laws.proofs.Below.{positive, table_ext}
use Rattle.route_laws.specs.Ends.{Ends, last_mark}
use Rattle.route_laws.specs.Receivers.{receivers, next_in, live_in, live_of, next_of, Marks, AllCodes}
use Rattle.route_laws.specs.Starts.{cut, start_of, OnRoutes}
use Rattle.route_laws.specs.Walking.{live_at, next_at, Walked}
use Rattle.route_laws.proofs.Front.{is_front, at_front}
use Rattle.route_laws.proofs.Routes.{all_end, first_unending_none, last_small}
use Rattle.route_laws.proofs.Receivers.{mark_at_lem, live_below, receivers_marks, length_receivers, first_endless_is, receivers_front}
use Rattle.route_laws.proofs.Starts.{length_cut, cut_marks, cut_ends, on_routes, watersheds_are}

-- ---- one place
pub cut_none : (n : ℕ) (starts t : List ℕ) (c : ℕ) → get_or starts c 0 ≡ 0 → t ≡ set t c (cond (ltb 0 (get_or starts c 0)) n (get_or t c 0))
cut_none n starts t c e = sym (ap (set t c) (cond_false n (get_or t c 0) (le-ltb 0 (get_or starts c 0) (omega arith))) ∙ set-get_or t c 0)

pub cut_one : (n : ℕ) (starts t : List ℕ) (c : ℕ) → (get_or starts c 0 ≡ 0 → ⊥) →
    set t c n ≡ set t c (cond (ltb 0 (get_or starts c 0)) n (get_or t c 0))
cut_one n starts t c f = ap (set t c) (sym (cond_true n (get_or t c 0) (lt-ltb 0 (get_or starts c 0) (positive (get_or starts c 0) f))))

-- the first i places are cut
pub record CutTo (n : ℕ) (starts : List ℕ) (i : ℕ) (t₀ t : List ℕ) : Type 0 where
  pub same_length : length t ≡ length t₀
  pub done : (c : ℕ) → c < i → get_or t c 0 ≡ cond (ltb 0 (get_or starts c 0)) n (get_or t₀ c 0)
  pub after : (k : ℕ) → i ≤ k → get_or t k 0 ≡ get_or t₀ k 0

module _ (n : ℕ) (starts t₀ : List ℕ) where
  pub cut_to_more : (i : ℕ) (t : List ℕ) → CutTo n starts i t₀ t → i < length t₀ →
      CutTo n starts (i + 1) t₀ (set t i (cond (ltb 0 (get_or starts i 0)) n (get_or t i 0)))
  cut_to_more i t C h =
      record {
        same_length = length-set t i (cond (ltb 0 (get_or starts i 0)) n (get_or t i 0)) ∙ C.same_length;
        done = λ c l. one c l (ℕ_discrete c i);
        after =
            λ k l. get_or-set_other t i k (cond (ltb 0 (get_or starts i 0)) n (get_or t i 0)) 0 (λ q. let z : ⊥ = omega arith in z)
            ∙ C.after k (omega arith);
      }
    where
      one : (c : ℕ) → c < i + 1 → Dec (c ≡ i) → get_or (set t i (cond (ltb 0 (get_or starts i 0)) n (get_or t i 0))) c 0
          ≡ cond (ltb 0 (get_or starts c 0)) n (get_or t₀ c 0)
      one c l (yes q) =
          let s = C.same_length in
          ap (λ (x : ℕ). get_or (set t i (cond (ltb 0 (get_or starts i 0)) n (get_or t i 0))) x 0) q
          ∙ get_or-set_same t i (cond (ltb 0 (get_or starts i 0)) n (get_or t i 0)) 0 (omega arith)
          ∙ ap (λ (x : ℕ). cond (ltb 0 (get_or starts i 0)) n x) (C.after i (omega arith))
          ∙ sym (ap (λ (x : ℕ). cond (ltb 0 (get_or starts x 0)) n (get_or t₀ x 0)) q)
      one c l (no f) = get_or-set_other t i c (cond (ltb 0 (get_or starts i 0)) n (get_or t i 0)) 0 f ∙ C.done c (omega arith)

  pub cut_all : (t : List ℕ) → n ≤ length t₀ → CutTo n starts n t₀ t → t ≡ cut n starts (take n t₀) ++ drop n t₀
  unfolding cut
  cut_all t l C =
      is_front n (λ c. cond (ltb 0 (get_or starts c 0)) n (next_in n (take n t₀) c)) t₀ t C.same_length l
      (λ c h. C.done c h ∙ ap (λ (x : ℕ). cond (ltb 0 (get_or starts c 0)) n x) (sym (mark_at_lem n t₀ c h l))) C.after

-- ---- the start at a cell
pub start_zero : (starts : List ℕ) (m : ℕ) → m ≡ 0 → 0 ≡ start_of starts m
unfolding start_of
start_zero starts m e = sym (cond_false _ _ (le-ltb 0 m (omega arith)))

pub start_at : (starts : List ℕ) (m : ℕ) → (m ≡ 0 → ⊥) → get_or starts (m - 1) 0 ≡ start_of starts m
unfolding start_of
start_at starts m f = sym (cond_true _ _ (lt-ltb 0 m (positive m f)))

-- ---- the whole
module _ (g : Grid) (codes starts t₀ t₁ t₂ : List ℕ) (long : length codes ≡ size g) (same : length starts ≡ size g) (all : AllCodes codes)
    (ends : first_endless g codes ≡ size g) (good : first_bad_start g codes starts ≡ size g)
    (e₁ : t₁ ≡ receivers g codes ++ drop (size g) t₀) (e₂ : t₂ ≡ cut (size g) starts (take (size g) t₁) ++ drop (size g) t₁) where
  cut_list : List ℕ
  cut_list = cut (size g) starts (receivers g codes)

  on : OnRoutes (size g) starts (receivers g codes)
  on = on_routes g codes starts long same all good

  front_cut : take (size g) t₂ ≡ cut (size g) starts (receivers g codes)
  front_cut =
      ap (take (size g)) e₂
      ∙ take_at (cut (size g) starts (take (size g) t₁)) (drop (size g) t₁) (size g) (length_cut (size g) starts (take (size g) t₁))
      ∙ ap (cut (size g) starts) (receivers_front g codes (drop (size g) t₀) t₁ long e₁)

  pub marks_cut : Marks (size g) (take (size g) t₂)
  marks_cut = subst (Marks (size g)) (sym front_cut) (cut_marks (size g) starts (receivers g codes) (receivers_marks g codes long) on)

  -- every route ends, and does when it is cut
  all_ends : (c : ℕ) → Ends (live_of g codes) (next_of g codes) c
  all_ends =
      all_end (live_of g codes) (next_of g codes) (size g) (live_below (size g) (receivers g codes) (length_receivers g codes long))
      (sym (first_endless_is g codes long) ∙ ends)

  ends_cut : (c : ℕ) → Ends (live_at (size g) t₂) (next_at (size g) t₂) c
  ends_cut c =
      subst (λ (l : List ℕ). Ends (live_in (size g) l) (next_in (size g) l) c) (sym front_cut)
      (cut_ends (size g) starts (receivers g codes) (receivers_marks g codes long) on (all_ends c).0 c (all_ends c).1)

  below_cut : (c : ℕ) → live_at (size g) t₂ c ≡ true → c < size g
  below_cut = live_below (size g) (take (size g) t₂) marks_cut.long

  module _ (t₃ : List ℕ) (r : ℕ) (W : Walked (size g) t₂ t₃ r) where
    at_walked : (c : ℕ) → c < size g → get_or t₃ c 0 ≡ size g + 1 + last_mark (live_at (size g) t₂) (next_at (size g) t₂) (size g) c
    at_walked c h =
        ap (λ (l : List ℕ). get_or l c 0)
        (W.lasts (W.first ∙ first_unending_none (live_at (size g) t₂) (next_at (size g) t₂) (size g) below_cut (λ k l. ends_cut k)))
        ∙ at_front (size g) (λ c. size g + 1 + last_mark (live_at (size g) t₂) (next_at (size g) t₂) (size g) c) (drop (size g) t₂) c h

    pub raised : (c : ℕ) → c < size g → (size g + 1 ≤ get_or t₃ c 0) × (get_or t₃ c 0 ≤ size g + 1 + size g)
    raised c h =
        let e = at_walked c h in
        let s = last_small (live_at (size g) t₂) (next_at (size g) t₂) (size g) below_cut c (ends_cut c) in
        (omega arith, omega arith)

    pub watersheds_read : table (size g) (λ c. start_of starts (get_or t₃ c 0 - (size g + 1))) ≡ watersheds g codes starts
    watersheds_read =
        table_ext (size g) (λ c. start_of starts (get_or t₃ c 0 - (size g + 1)))
        (λ c. start_of starts
        (last_mark (live_in (size g) (cut (size g) starts (receivers g codes))) (next_in (size g) (cut (size g) starts (receivers g codes)))
        (size g) c))
        (λ c h. ap (start_of starts)
        (less (get_or t₃ c 0) _ (at_walked c h) ∙ ap (λ (l : List ℕ). last_mark (live_in (size g) l) (next_in (size g) l) (size g) c)
        front_cut))
        ∙ sym (watersheds_are g codes starts long on all_ends)
      where
        less : (x y : ℕ) → x ≡ size g + 1 + y → x - (size g + 1) ≡ y
        less x y e = omega arith
