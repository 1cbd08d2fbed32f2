-- Two routes that end, with no geometry, as the definitions of `Routes` in `grid`: from a common cell on both are that cell's route. A cell
-- before the longest shared ending has a longer route than that ending, so it cannot lie on both.
use mathlib.Core.Path.{◌≡◌, refl, sym, ◌∙◌, ap, subst}
use mathlib.Core.Bool.{Bool, true}
use mathlib.Core.Logic.{inl, inr, ⊎_elim}
use mathlib.Core.List.{List, [], ◌∷◌, ◌++◌, append-nil}
use Prim.Native.Nat.{ℕ, zero, suc, ◌<◌}
use native.Mathlib.Omega.{arith}
use lib.ListN.{length, get_or, length-append}
use Rattle.grid.specs.Below.{In}
use Rattle.grid.specs.Routes.{follow}
use Rattle.grid.specs.Endings.{EndsWith, LongestShared, Joins}
use Rattle.grid_laws.proofs.Tests.{test}
use Rattle.route_laws.specs.Ends.{EndsIn}
use Rattle.route_laws.proofs.Routes.{in_live, same_length, length_follow}

in_right : (x : ℕ) (l m : List ℕ) → In x m → In x (l ++ m)
in_right x [] m i = i
in_right x (y ∷ l) m i = inr (in_right x l m i)

place_in : (l : List ℕ) (i : ℕ) → i < length l → In (get_or l i 0) l
place_in [] i h = absurd (omega arith)
place_in (x ∷ l) zero h = inl refl
place_in (x ∷ l) (suc i) h = inr (place_in l i (omega arith))

module _ (live : ℕ → Bool) (next : ℕ → ℕ) where
  -- a cell before the ending s of a route has a longer route than s
  longer_before : (before s : List ℕ) (k c x : ℕ) → EndsIn live next k c → before ++ s ≡ follow live next k c → In x before →
      (j : ℕ) × EndsIn live next j x × EndsWith (follow live next k c) (follow live next j x) × (length s < j)
  unfolding follow
  longer_before [] s k c x e q i = absurd i
  longer_before (y ∷ before) s zero c x e q i = let z : ◌≡◌ {A = ℕ} 0 1 = cc q in let w : ⊥ = omega arith in absurd w
  longer_before (y ∷ before) s (suc k) c x e q i =
      ⊎_elim
      (λ h. (
        suc k,
        subst (λ (d : ℕ). EndsIn live next (suc k) d) (sym (h ∙ q₁)) e,
        ([], ap (λ (d : ℕ). follow live next (suc k) d) (h ∙ q₁)),
        (let a = ap length q₂ in let b = length-append before s in let n = length_follow live next k (next c) e.1 in omega arith),
      ))
      (λ h.
      let r = longer_before before s k (next c) x e.1 q₂ h in
      (r.0, r.1, (c ∷ r.2.0, rw e.0 (ap (λ (l : List ℕ). c ∷ l) r.2.1)), r.3))
      i
    where
      p : y ∷ (before ++ s) ≡ c ∷ follow live next k (next c)
      p = rw e.0 at q

      q₁ : y ≡ c
      q₁ = cc p

      q₂ : before ++ s ≡ follow live next k (next c)
      q₂ = cc p

  -- from a cell of a route on, it is that cell's route
  from_cell : (k c x : ℕ) → EndsIn live next k c → In x (follow live next k c) →
      (j : ℕ) × EndsIn live next j x × EndsWith (follow live next k c) (follow live next j x)
  from_cell k c x e i =
      let r = longer_before (follow live next k c) [] k c x e (append-nil (follow live next k c)) i in (r.0, r.1, r.2)

  -- two routes that end: their longest shared ending is where they join
  pub join : (k j a b : ℕ) → EndsIn live next k a → EndsIn live next j b → (s : List ℕ) →
      LongestShared (follow live next k a) (follow live next j b) s → Joins (follow live next k a) (follow live next j b) s
  join k j a b e f s h =
      record {
        before = h.ends_first.0;
        whole = h.ends_first.1;
        none_before = λ x i m. not_both x (longer_before h.ends_first.0 s k a x e h.ends_first.1 i) (from_cell j b x f m);
        together = λ x i. subst (λ (l : List ℕ). In x l) h.ends_second.1 (in_right x h.ends_second.0 s i);
      }
    where
      not_both : (x : ℕ) →
          ((i : ℕ) × EndsIn live next i x × EndsWith (follow live next k a) (follow live next i x) × (length s < i)) →
          ((i : ℕ) × EndsIn live next i x × EndsWith (follow live next j b) (follow live next i x)) → ⊥
      not_both x (i, ei, wi, l) (m, em, wm) =
          let q : m ≡ i = same_length live next m i x em ei in
          let o = h.longest (follow live next i x) wi (subst (λ (y : ℕ). EndsWith (follow live next j b) (follow live next y x)) q wm) in
          let n = length_follow live next i x ei in
          omega arith

  -- ---- the cells of a route in turn

  pub cell_live : (k c i : ℕ) → i < length (follow live next k c) → live (get_or (follow live next k c) i 0) ≡ true
  cell_live k c i h = in_live live next k c (get_or (follow live next k c) i 0) (place_in (follow live next k c) i h)

  pub cell_next : (k c i : ℕ) → suc i < length (follow live next k c) →
      get_or (follow live next k c) (suc i) 0 ≡ next (get_or (follow live next k c) i 0)
  unfolding follow
  cell_next zero c i h = absurd (omega arith)
  cell_next (suc k) c i h =
      ⊎_elim (λ t. rw t (go i (rw t at h) (λ j m. cell_next k (next c) j m))) (λ f. let w = rw f at h in absurd (omega arith))
      (test (live c))
    where
      first : (m : ℕ) → 0 < length (follow live next m (next c)) → get_or (follow live next m (next c)) 0 0 ≡ next c
      first zero h = absurd (omega arith)
      first (suc m) h = ⊎_elim (λ t. rw t) (λ f. let w = rw f at h in absurd (omega arith)) (test (live (next c)))

      go : (i : ℕ) → suc i < suc (length (follow live next k (next c))) →
          ((j : ℕ) → suc j < length (follow live next k (next c)) →
          get_or (follow live next k (next c)) (suc j) 0 ≡ next (get_or (follow live next k (next c)) j 0)) →
          get_or (c ∷ follow live next k (next c)) (suc i) 0 ≡ next (get_or (c ∷ follow live next k (next c)) i 0)
      go zero h r = first k (omega arith)
      go (suc i) h r = r i (omega arith)
