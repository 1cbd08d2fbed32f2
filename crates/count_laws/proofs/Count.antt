-- A cell's count is the sum over the cells that flow into it of 1 and their counts, and only that is: where every route ends. A route that
-- holds c, but not as its first cell, holds exactly one cell that flows into c; so two sums change places.
use mathlib.Core.Path.{◌≡◌, refl, sym, ◌∙◌, ap}
use mathlib.Core.Logic.{⊎_elim}
use mathlib.Core.Bool.{Bool, true, false, not, cond, ◌&&◌, ◌||◌}
use Prim.Native.Nat.{ℕ, zero, suc, ◌+◌, ◌<◌}
use native.Mathlib.Omega.{arith}
use lib.Dec.{eqb}
use borrow.Author.Tests.{eqb-true, eq-eqb, ne_eqb}
use Rattle.grid.specs.Below.{has, sum_below, count_below}
use Rattle.grid.specs.Routes.{follow}
use Rattle.grid_laws.proofs.Tests.{test, true_false, and_false_right}
use Rattle.grid_laws.proofs.Below.{sum_ext, sum_zero, sum_plus, sum_swap}
use Rattle.route_laws.specs.Ends.{EndsIn, Ends}
use Rattle.grid_laws.proofs.Few.{no_in_has}
use Rattle.route_laws.proofs.Routes.{follow_dead, in_live, same_length, short, route_step, route_not_again}
use Rattle.count_laws.specs.Inflow.{route_count, mark_of, inflow, Flow}
use Rattle.count_laws.proofs.Sums.{same?, sum_one, sum_more}

abbrev bit : Bool → ℕ
bit b = cond b 1 0

or_bit : (a b : Bool) → (a ≡ true → b ≡ false) → bit (a || b) ≡ bit a + bit b
or_bit true b h = rw (h refl)
or_bit false b h = omega arith

-- the marks of a sheet are such marks
pub mark_flow : (live : ℕ → Bool) (next : ℕ → ℕ) (n : ℕ) → ((c : ℕ) → live c ≡ true → c < n) → Flow n live next (mark_of live next n)
unfolding mark_of
mark_flow live next n on =
    record {
      on_sheet = on;
      into =
          λ d c l h e. ⊎_elim (λ t. ⊎_elim (λ u. onward d c t u e) (λ u. past d c h t u e) (test (live (next d)))) (λ t. none d c h t e)
          (test (live d));
      from = λ d t u. rw (t, u);
    }
  where
    onward : (d c : ℕ) → live d ≡ true → live (next d) ≡ true → cond (live d) (cond (live (next d)) (next d) n) (n + 1) ≡ c
        → (live d ≡ true) × (next d ≡ c) × (live c ≡ true)
    onward d c t u e = let q : next d ≡ c = rw (t, u) at e in (t, q, rw q at u)

    past : (d c : ℕ) → c < n → live d ≡ true → live (next d) ≡ false → cond (live d) (cond (live (next d)) (next d) n) (n + 1) ≡ c
        → (live d ≡ true) × (next d ≡ c) × (live c ≡ true)
    past d c h t u e = let q : n ≡ c = rw (t, u) at e in let z : ⊥ = omega arith in absurd z

    none : (d c : ℕ) → c < n → live d ≡ false → cond (live d) (cond (live (next d)) (next d) n) (n + 1) ≡ c
        → (live d ≡ true) × (next d ≡ c) × (live c ≡ true)
    none d c h t e = let q : n + 1 ≡ c = rw t at e in let z : ⊥ = omega arith in absurd z

module _ {n : ℕ} {live : ℕ → Bool} {next mark : ℕ → ℕ} (F : Flow n live next mark) where
  -- ---- the sum over what flows into c
  -- it asks its weight only at cells that flow into c
  pub inflow_ext : (v w : ℕ → ℕ) (c : ℕ) → c < n → ((u : ℕ) → u < n → live u ≡ true → next u ≡ c → v u ≡ w u) →
      inflow n mark v c ≡ inflow n mark w c
  unfolding inflow
  inflow_ext v w c h e =
      sum_ext n (λ d. cond (eqb (mark d) c) (v d) 0) (λ d. cond (eqb (mark d) c) (w d) 0)
      (λ d l. ⊎_elim (λ y. let r = F.into d c l h (eqb-true (mark d) c y) in rw y (e d l r.0 r.1)) (λ y. rw y)
      (test (eqb (mark d) c)))

  inflow_plus : (v w : ℕ → ℕ) (c : ℕ) → inflow n mark (λ u. v u + w u) c ≡ inflow n mark v c + inflow n mark w c
  unfolding inflow
  inflow_plus v w c =
      sum_ext n (λ d. cond (eqb (mark d) c) (v d + w d) 0) (λ d. cond (eqb (mark d) c) (v d) 0 + cond (eqb (mark d) c) (w d) 0)
      (λ d l. ⊎_elim (λ y. rw y) (λ y. rw y) (test (eqb (mark d) c)))
      ∙ sum_plus n (λ d. cond (eqb (mark d) c) (v d) 0) (λ d. cond (eqb (mark d) c) (w d) 0)

  inflow_none : (w : ℕ → ℕ) (c : ℕ) → c < n → ((u : ℕ) → next u ≡ c → w u ≡ 0) → inflow n mark w c ≡ 0
  unfolding inflow
  inflow_none w c h e =
      sum_zero n (λ d. cond (eqb (mark d) c) (w d) 0)
      (λ d l. ⊎_elim (λ y. let r = F.into d c l h (eqb-true (mark d) c y) in rw y (e d r.1)) (λ y. rw y) (test (eqb (mark d) c)))

  -- nothing flows into a cell that is not live
  pub inflow_dead : (w : ℕ → ℕ) (c : ℕ) → c < n → live c ≡ false → inflow n mark w c ≡ 0
  unfolding inflow
  inflow_dead w c h f =
      sum_zero n (λ d. cond (eqb (mark d) c) (w d) 0)
      (λ d l. ⊎_elim (λ y. true_false (F.into d c l h (eqb-true (mark d) c y)).2 f) (λ y. rw y) (test (eqb (mark d) c)))

  -- a weight that counts at d alone
  inflow_here : (w : ℕ → ℕ) (d : ℕ) → live d ≡ true → live (next d) ≡ true → ((u : ℕ) → (u ≡ d → ⊥) → w u ≡ 0) →
      inflow n mark w (next d) ≡ w d
  unfolding inflow
  inflow_here w d t s h =
      sum_one n d (λ u. cond (eqb (mark u) (next d)) (w u) 0) (F.on_sheet d t)
      (λ u l f. ⊎_elim (λ y. rw y (h u f)) (λ y. rw y) (test (eqb (mark u) (next d))))
      ∙ rw (eq-eqb (mark d) (next d) (F.from d t s))

  inflow_away : (w : ℕ → ℕ) (c d : ℕ) → c < n → (next d ≡ c → ⊥) → ((u : ℕ) → (u ≡ d → ⊥) → w u ≡ 0) → inflow n mark w c ≡ 0
  inflow_away w c d h f z = inflow_none w c h (λ u e. z u (λ q. f (ap next (sym q) ∙ e)))

  -- ---- counting
  has_self : {c : ℕ} → Ends live next c → live c ≡ true → has c (follow live next n c) ≡ true
  unfolding has
  has_self {c} a t = rw (route_step live next n F.on_sheet c a t) (rw (eq-eqb c c refl))

  -- the routes that hold c, but not as their first cell, are those that hold a cell that flows into c; each holds one
  hits : (k d c : ℕ) → EndsIn live next k d → live c ≡ true →
      inflow n mark (λ u. bit (has u (follow live next n d))) c ≡ bit (not (eqb d c) && has c (follow live next n d))
  unfolding has
  hits zero d c a t =
      rw (follow_dead live next n d a)
      (inflow_none (λ u. 0) c (F.on_sheet c t) (λ u e. refl) ∙ sym (ap bit (and_false_right (not (eqb d c)) refl)))
  hits (suc k) d c a t =
      rw (route_step live next n F.on_sheet d (suc k, a) a.0) (
      inflow_ext (λ u. bit (eqb u d || has u (follow live next n (next d))))
      (λ u. bit (eqb u d) + bit (has u (follow live next n (next d)))) c (F.on_sheet c t) (λ u l s e. parts u)
      ∙ inflow_plus (λ u. bit (eqb u d)) (λ u. bit (has u (follow live next n (next d)))) c
      ∙ ap (λ (x : ℕ). inflow n mark (λ u. bit (eqb u d)) c + x) (hits k (next d) c a.1 t)
      ∙ ⊎_elim at_c past_c (same? (next d) c)
      )
    where
      again : has d (follow live next n (next d)) ≡ false
      again = route_not_again live next n F.on_sheet d (suc k, a) a.0

      parts : (u : ℕ) → bit (eqb u d || has u (follow live next n (next d))) ≡ bit (eqb u d) + bit (has u (follow live next n (next d)))
      parts u =
          or_bit (eqb u d) (has u (follow live next n (next d)))
          (λ y. ap (λ (x : ℕ). has x (follow live next n (next d))) (eqb-true u d y) ∙ again)

      others : (u : ℕ) → (u ≡ d → ⊥) → bit (eqb u d) ≡ 0
      others u f = ap bit (ne_eqb u d f)

      -- d flows into c: d is the one
      at_c : next d ≡ c → inflow n mark (λ u. bit (eqb u d)) c + bit (not (eqb (next d) c) && has c (follow live next n (next d)))
          ≡ bit (not (eqb d c) && (eqb c d || has c (follow live next n (next d))))
      at_c q =
          let s : live (next d) ≡ true = ap live q ∙ t in
          let i : inflow n mark (λ u. bit (eqb u d)) c ≡ 1 =
          ap (inflow n mark (λ u. bit (eqb u d))) (sym q)
          ∙ inflow_here (λ u. bit (eqb u d)) d a.0 s others
          ∙ ap bit (eq-eqb d d refl) in
          let j : has c (follow live next n (next d)) ≡ true =
          ap (λ (x : ℕ). has x (follow live next n (next d))) (sym q) ∙ has_self (k, a.1) s in
          let g : d ≡ c → ⊥ = λ e. true_false j (ap (λ (x : ℕ). has x (follow live next n (next d))) (sym e) ∙ again) in
          rw (i, j, eq-eqb (next d) c q, ne_eqb d c g, ne_eqb c d (λ e. g (sym e)))

      past_c : (next d ≡ c → ⊥) → inflow n mark (λ u. bit (eqb u d)) c + bit (not (eqb (next d) c) && has c (follow live next n (next d)))
          ≡ bit (not (eqb d c) && (eqb c d || has c (follow live next n (next d))))
      past_c f =
          let i : inflow n mark (λ u. bit (eqb u d)) c ≡ 0 = inflow_away (λ u. bit (eqb u d)) c d (F.on_sheet c t) f others in
          rw (i, ne_eqb (next d) c f)
          (⊎_elim
          (λ e. let j : has c (follow live next n (next d)) ≡ false = ap (λ (x : ℕ). has x (follow live next n (next d))) (sym e)
          ∙ again in rw (j, eq-eqb d c e))
          (λ g. rw (ne_eqb d c g, ne_eqb c d (λ e. g (sym e))) (omega arith))
          (same? d c))

  -- the routes that hold u: u's own, and those that are counted
  own_more : ((d : ℕ) → Ends live next d) → (u : ℕ) → live u ≡ true →
      sum_below n (λ d. bit (has u (follow live next n d))) ≡ route_count live next n u + 1
  unfolding route_count count_below
  own_more all u t =
      sum_more n u 1 (λ d. bit (not (eqb d u) && has u (follow live next n d))) (λ d. bit (has u (follow live next n d))) (F.on_sheet u t)
      (rw (eq-eqb u u refl) (ap bit (has_self (all u) t)))
      (λ d l f. rw (ne_eqb d u f))

  pub count_dead : (c : ℕ) → live c ≡ false → route_count live next n c ≡ 0
  unfolding route_count count_below
  count_dead c e =
      sum_zero n (λ d. bit (not (eqb d c) && has c (follow live next n d)))
      (λ d l. rw (no_in_has c (follow live next n d) (λ i. true_false (in_live live next n d c i) e))
      (ap bit (and_false_right (not (eqb d c)) refl)))

  pub count_is : ((d : ℕ) → Ends live next d) → (c : ℕ) → live c ≡ true →
      route_count live next n c ≡ inflow n mark (λ u. route_count live next n u + 1) c
  unfolding route_count count_below inflow
  count_is all c t =
      counted ∙ swapped
      ∙ inflow_ext (λ u. sum_below n (λ d. bit (has u (follow live next n d)))) (λ u. route_count live next n u + 1) c (F.on_sheet c t)
      (λ u l s e. own_more all u s)
    where
      counted : route_count live next n c ≡ sum_below n (λ d. inflow n mark (λ u. bit (has u (follow live next n d))) c)
      counted =
          sum_ext n (λ d. bit (not (eqb d c) && has c (follow live next n d)))
          (λ d. inflow n mark (λ u. bit (has u (follow live next n d))) c)
          (λ d l. sym (hits (all d).0 d c (all d).1 t))

      column : (u : ℕ) → sum_below n (λ d. cond (eqb (mark u) c) (bit (has u (follow live next n d))) 0)
          ≡ cond (eqb (mark u) c) (sum_below n (λ d. bit (has u (follow live next n d)))) 0
      column u = ⊎_elim (λ y. rw y) (λ y. rw y (sum_zero n (λ d. 0) (λ k l. refl))) (test (eqb (mark u) c))

      swapped : sum_below n (λ d. inflow n mark (λ u. bit (has u (follow live next n d))) c)
          ≡ inflow n mark (λ u. sum_below n (λ d. bit (has u (follow live next n d)))) c
      swapped =
          sum_swap n n (λ d u. cond (eqb (mark u) c) (bit (has u (follow live next n d))) 0)
          ∙ sum_ext n (λ u. sum_below n (λ d. cond (eqb (mark u) c) (bit (has u (follow live next n d))) 0))
          (λ u. cond (eqb (mark u) c) (sum_below n (λ d. bit (has u (follow live next n d)))) 0)
          (λ u l. column u)

  -- whatever meets the equation is the count
  pub count_only : ((d : ℕ) → Ends live next d) → (A : ℕ → ℕ) → ((c : ℕ) → c < n → A c ≡ inflow n mark (λ u. A u + 1) c) → (c : ℕ) →
      c < n → A c ≡ route_count live next n c
  count_only all A eqn c on = go (suc n) c on (omega arith)
    where
      longer : (u : ℕ) → live u ≡ true → (all u).0 ≡ suc (all (next u)).0
      longer u s = same_length live next (all u).0 (suc (all (next u)).0) u (all u).1 (s, (all (next u)).1)

      go : (m c : ℕ) → c < n → n < (all c).0 + m → A c ≡ route_count live next n c
      go zero c l h = let s = short live next n F.on_sheet (all c).0 c (all c).1 in let z : ⊥ = omega arith in absurd z
      go (suc m) c l h =
          ⊎_elim
          (λ t. eqn c l ∙ inflow_ext (λ u. A u + 1) (λ u. route_count live next n u + 1) c l
          (λ u i s e. ap (λ (x : ℕ). x + 1)
          (go m u i (let l = longer u s in let q : (all (next u)).0 ≡ (all c).0 = ap (λ (x : ℕ). (all x).0) e in omega arith)))
          ∙ sym (count_is all c t))
          (λ f. eqn c l ∙ inflow_dead (λ u. A u + 1) c l f ∙ sym (count_dead c f))
          (test (live c))
