-- The scan that numbers the starts.
use mathlib.Core.Path.{◌≡◌, refl, sym, ◌∙◌, ap}
use mathlib.Core.Bool.{Bool, true, false, not, cond, ◌&&◌}
use mathlib.Core.List.{List}
use Prim.Native.Nat.{ℕ, ◌+◌, ◌≤◌, ◌<◌}
use native.Mathlib.Omega.{arith}
use native.Mathlib.Numerals.{add-one}
use lib.Dec.{ltb}
use lib.ListN.{length, get_or, set, length-set}
use lib.Seq.{get_or-set_same, get_or-set_other}
use borrow.Author.Count.{below_more}
use borrow.Author.Tests.{lt-ltb, le-ltb}
use Rattle.grid.specs.Below.{table, count_below, sum_below}
use Rattle.grid_laws.proofs.Tests.{and_false_left, and_false_right, cond_true, cond_false, not_is_true, not_is_false}
use Rattle.grid_laws.proofs.Below.{is_table, count_suc, count_≤}
use Rattle.accumulation.specs.Tail.{mark_at}
use Rattle.starting.specs.Marked.{start_by, start_number, NumberedTo}

-- ---- one cell: what the code tests
module _ (n : ℕ) (t counts : List ℕ) (threshold c next : ℕ) (e : next ≡ mark_at t c) where
  pub ends_there : n ≤ next → false ≡ start_by n t counts threshold c
  unfolding start_by
  ends_there h = sym (and_false_left _ (le-ltb (mark_at t c) n (omega arith)))

  pub too_few : next < n → get_or counts c 0 ≤ threshold → false ≡ start_by n t counts threshold c
  unfolding start_by
  too_few h l = sym (and_false_right (ltb (mark_at t c) n) (and_false_left _ (le-ltb threshold (get_or counts c 0) l)))

  pub by_rise : next < n → threshold < get_or counts c 0 → (r : Bool) → r ≡ ltb (get_or counts c 0 + threshold) (get_or counts next 0) →
      r ≡ start_by n t counts threshold c
  unfolding start_by
  by_rise h l r q =
      q
      ∙ ap (λ (x : ℕ). ltb (get_or counts c 0 + threshold) (get_or counts x 0)) e
      ∙ sym (ap (λ (x : Bool). x && ltb (get_or counts c 0 + threshold) (get_or counts (mark_at t c) 0)) (lt-ltb threshold (get_or counts c 0) l))
      ∙ sym (ap (λ (x : Bool). x && (ltb threshold (get_or counts c 0) && ltb (get_or counts c 0 + threshold) (get_or counts (mark_at t c) 0)))
      (lt-ltb (mark_at t c) n (let k : mark_at t c < n = omega arith in k)))

-- ---- one cell: what the code writes, by the answer r to the test b
pub no_number : (r b : Bool) (starts : List ℕ) (c found : ℕ) → r ≡ b → not r ≡ true →
    (set starts c 0 ≡ set starts c (cond b (found + 1) 0)) × (found ≡ found + cond b 1 0)
no_number r b starts c found e q =
    let f : b ≡ false = sym e ∙ not_is_true r q in
    (ap (λ (x : ℕ). set starts c x) (sym (cond_false (found + 1) 0 f)), (let o = cond_false {A = ℕ} 1 0 f in omega arith))

pub one_number : (r b : Bool) (starts : List ℕ) (c found : ℕ) → r ≡ b → not r ≡ false →
    (set starts c (found + 1) ≡ set starts c (cond b (found + 1) 0)) × (found + 1 ≡ found + cond b 1 0)
one_number r b starts c found e q =
    let f : b ≡ true = sym e ∙ not_is_false r q in
    (ap (λ (x : ℕ). set starts c x) (sym (cond_true (found + 1) 0 f)), (let o = cond_true {A = ℕ} 1 0 f in omega arith))

-- ---- the scan
pub numbered_none : (n : ℕ) (t counts : List ℕ) (threshold : ℕ) (starts : List ℕ) → NumberedTo n 0 t counts threshold 0 starts starts
unfolding count_below sum_below
numbered_none n t counts threshold starts =
    record { same_length = refl; tallied = refl; numbered = λ k l. let z : ⊥ = omega arith in absurd z }

pub found_small : (n i : ℕ) (t counts : List ℕ) (threshold found : ℕ) (starts₀ starts : List ℕ) →
    NumberedTo n i t counts threshold found starts₀ starts → found ≤ i
found_small n i t counts threshold found starts₀ starts N =
    let a = N.tallied in let b = count_≤ i (start_by n t counts threshold) in omega arith

pub numbered_more : (n i : ℕ) (t counts : List ℕ) (threshold found found' : ℕ) (starts₀ starts starts' : List ℕ) →
    NumberedTo n i t counts threshold found starts₀ starts → i < length starts₀
    → starts' ≡ set starts i (cond (start_by n t counts threshold i) (found + 1) 0) →
    found' ≡ found + cond (start_by n t counts threshold i) 1 0
    → NumberedTo n (i + 1) t counts threshold found' starts₀ starts'
unfolding start_number
numbered_more n i t counts threshold found found' starts₀ starts starts' N h e q =
    rw e (record {
      same_length = length-set starts i v ∙ N.same_length;
      tallied =
          q
          ∙ ap (λ (x : ℕ). x + cond (start_by n t counts threshold i) 1 0) N.tallied
          ∙ sym (count_suc i (start_by n t counts threshold))
          ∙ ap (λ (x : ℕ). count_below x (start_by n t counts threshold)) (sym (add-one i));
      numbered =
          below_more _ i
          (λ k l. get_or-set_other starts i k v 0 (λ p. let z : ⊥ = omega arith in absurd z) ∙ N.numbered k l)
          (get_or-set_same starts i v 0 (let a = N.same_length in omega arith)
          ∙ ap (λ (x : ℕ). cond (start_by n t counts threshold i) (x + 1) 0) N.tallied);
    })
  where
    v : ℕ
    v = cond (start_by n t counts threshold i) (found + 1) 0

pub all_numbered : (n i : ℕ) (t counts : List ℕ) (threshold found : ℕ) (starts₀ starts : List ℕ) →
    NumberedTo n i t counts threshold found starts₀ starts → length starts₀ ≡ n → i ≤ n → n ≤ i
    → (starts ≡ table n (start_number n t counts threshold)) × (found ≡ count_below n (start_by n t counts threshold))
all_numbered n i t counts threshold found starts₀ starts N long l h =
    let e : i ≡ n = omega arith in (
      is_table n (start_number n t counts threshold) starts 0 (N.same_length ∙ long) (λ c m. N.numbered c (omega arith)),
      N.tallied ∙ ap (λ (x : ℕ). count_below x (start_by n t counts threshold)) e,
    )
