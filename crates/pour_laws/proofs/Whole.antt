-- The entries of `insert_all`: they rise by pair, each is a candidate, and each candidate's pair has an entry of at least as good a rank.
use mathlib.Core.Path.{◌≡◌, refl, sym, ◌∙◌, ap, subst}
use mathlib.Core.Bool.{Bool, true, false, cond}
use mathlib.Core.List.{List, [], ◌∷◌}
use mathlib.Core.Logic.{◌⊎◌, inl, inr, ⊎_elim}
use Prim.Native.Nat.{ℕ, ◌≤◌, ◌<◌}
use native.Mathlib.Omega.{arith}
use lib.Dec.{eqb, ltb}
use borrow.Author.Tests.{ltb-true, ltb-false, eqb-true, eqb-false}
use Rattle.grid.specs.PourPoints.{Entry, pair_below, same_pair, better, insert, insert_all}
use Rattle.pour_laws.specs.Words.{pair_of, rank_of, Fits, Among}
use Rattle.pour_laws.proofs.Order.{pair_below_lem, pair_same, better_is}

-- every entry's pair is above p
abbrev pub Above : ℕ → List Entry → Type 0
Above p [] = Unit {0}
Above p (y ∷ l) = (p < pair_of y) × Above p l

abbrev pub Rising : List Entry → Type 0
Rising [] = Unit {0}
Rising (y ∷ l) = Above (pair_of y) l × Rising l

-- some entry has x's pair, and no worse a rank
abbrev pub Bettered : Entry → List Entry → Type 0
Bettered x l = (y : Entry) × Among y l × (pair_of y ≡ pair_of x) × (rank_of y ≤ rank_of x)

above_less : (p q : ℕ) (l : List Entry) → p ≤ q → Above q l → Above p l
above_less p q [] h a = tt
above_less p q (y ∷ l) h a = ((let k = a.0 in omega arith), above_less p q l h a.1)

bettered_more : (z x : Entry) (l : List Entry) → Bettered x l → Bettered x (z ∷ l)
bettered_more z x l w = (w.0, inr w.1, w.2, w.3)

-- what `insert` does, by the order of the two pairs
abbrev Inserted : Entry → Entry → List Entry → List Entry → Type 0
Inserted x y l m =
    ((pair_of x < pair_of y) × (m ≡ x ∷ y ∷ l))
    ⊎ ((pair_of x ≡ pair_of y) × (m ≡ better x y ∷ l)) ⊎ ((pair_of y < pair_of x) × (m ≡ y ∷ insert x l))

module _ (x y : Entry) (l : List Entry) (f : Fits x) (h : Fits y) where
  inserted : Inserted x y l (insert x (y ∷ l))
  unfolding insert
  inserted = go (ltb (pair_of x) (pair_of y)) refl (eqb (pair_of x) (pair_of y)) refl
    where
      strictly : (a b : ℕ) → b ≤ a → (a ≡ b → ⊥) → b < a
      strictly a b p n = omega arith

      go : (t : Bool)
          → ltb (pair_of x) (pair_of y) ≡ t
          → (u : Bool)
          → eqb (pair_of x) (pair_of y) ≡ u
          → Inserted x y l (cond (pair_below x y) (x ∷ y ∷ l) (cond (same_pair x y) (better x y ∷ l) (y ∷ insert x l)))
      go true e u d = inl (ltb-true _ _ e, rw (pair_below_lem x y f h, e))
      go false e true d = inr (inl (eqb-true _ _ d, rw (pair_below_lem x y f h, e, pair_same x y f h, d)))
      go false e false d =
          inr (inr (strictly (pair_of x) (pair_of y) (ltb-false _ _ e) (eqb-false _ _ d), rw (pair_below_lem x y f h, e, pair_same x y f h, d)))

-- the better of two of one pair
abbrev Chosen : Entry → Entry → Entry → Type 0
Chosen x y z = ((z ≡ x) × (rank_of x ≤ rank_of y)) ⊎ ((z ≡ y) × (rank_of y ≤ rank_of x))

chosen_pair : (x y z : Entry) → pair_of x ≡ pair_of y → Chosen x y z → pair_of z ≡ pair_of y
chosen_pair x y z e (inl w) = ap (λ (v : Entry). pair_of v) w.0 ∙ e
chosen_pair x y z e (inr w) = ap (λ (v : Entry). pair_of v) w.0

chosen_first : (x y z : Entry) → Chosen x y z → rank_of z ≤ rank_of x
chosen_first x y z (inl w) = let q : rank_of z ≡ rank_of x = ap (λ (v : Entry). rank_of v) w.0 in omega arith
chosen_first x y z (inr w) = let q : rank_of z ≡ rank_of y = ap (λ (v : Entry). rank_of v) w.0 in let l = w.1 in omega arith

chosen_second : (x y z : Entry) → Chosen x y z → rank_of z ≤ rank_of y
chosen_second x y z (inl w) = let q : rank_of z ≡ rank_of x = ap (λ (v : Entry). rank_of v) w.0 in let l = w.1 in omega arith
chosen_second x y z (inr w) = let q : rank_of z ≡ rank_of y = ap (λ (v : Entry). rank_of v) w.0 in omega arith

chosen_one : (x y z : Entry) → Chosen x y z → (z ≡ x) ⊎ (z ≡ y)
chosen_one x y z (inl w) = inl w.0
chosen_one x y z (inr w) = inr w.0

abbrev pub AllFit : List Entry → Type 0
AllFit l = (z : Entry) → Among z l → Fits z

module _ (x : Entry) (f : Fits x) where
  insert_above : (p : ℕ) (l : List Entry) → AllFit l → p < pair_of x → Above p l → Above p (insert x l)
  unfolding insert
  insert_above p [] a h k = (h, tt)
  insert_above p (y ∷ l) a h k = go (insert x (y ∷ l)) (inserted x y l f (a y (inl refl))) (insert_above p l (λ z i. a z (inr i)) h k.1)
    where
      go : (m : List Entry) → Inserted x y l m → Above p (insert x l) → Above p m
      go m (inl w) r = subst (Above p) (sym w.1) (h, k)
      go m (inr (inl w)) r =
          let q : pair_of (better x y) ≡ pair_of y = chosen_pair x y (better x y) w.0 (better_is x y f (a y (inl refl))) in
          let o = k.0 in
          subst (Above p) (sym w.1) (omega arith, k.1)
      go m (inr (inr w)) r = subst (Above p) (sym w.1) (k.0, r)

  insert_rising : (l : List Entry) → AllFit l → Rising l → Rising (insert x l)
  unfolding insert
  insert_rising [] a k = (tt, tt)
  insert_rising (y ∷ l) a k = go (insert x (y ∷ l)) (inserted x y l f (a y (inl refl))) (insert_rising l (λ z i. a z (inr i)) k.1)
    where
      go : (m : List Entry) → Inserted x y l m → Rising (insert x l) → Rising m
      go m (inl w) r = subst Rising (sym w.1) ((w.0, above_less (pair_of x) (pair_of y) l (let h = w.0 in omega arith) k.0), k)
      go m (inr (inl w)) r =
          let q : pair_of (better x y) ≡ pair_of y = chosen_pair x y (better x y) w.0 (better_is x y f (a y (inl refl))) in
          subst Rising (sym w.1) (above_less (pair_of (better x y)) (pair_of y) l (omega arith) k.0, k.1)
      go m (inr (inr w)) r = subst Rising (sym w.1) (insert_above (pair_of y) l (λ z i. a z (inr i)) w.0 k.0, r)

  insert_from : (l : List Entry) → AllFit l → (z : Entry) → Among z (insert x l) → (z ≡ x) ⊎ Among z l
  unfolding insert
  insert_from [] a z i = i
  insert_from (y ∷ l) a z i =
      go (insert x (y ∷ l)) (inserted x y l f (a y (inl refl))) (insert_from l (λ v j. a v (inr j)) z) i
    where
      tail : (z ≡ x) ⊎ Among z l → (z ≡ x) ⊎ ((z ≡ y) ⊎ Among z l)
      tail (inl e) = inl e
      tail (inr j) = inr (inr j)

      first : (z ≡ x) ⊎ ((z ≡ y) ⊎ Among z l) → (z ≡ x) ⊎ ((z ≡ y) ⊎ Among z l)
      first j = j

      chosen : (v : Entry) → Chosen x y v → (z ≡ v) ⊎ Among z l → (z ≡ x) ⊎ ((z ≡ y) ⊎ Among z l)
      chosen v (inl w) (inl e) = inl (e ∙ w.0)
      chosen v (inr w) (inl e) = inr (inl (e ∙ w.0))
      chosen v w (inr j) = inr (inr j)

      step : (Among z (insert x l) → (z ≡ x) ⊎ Among z l) → (z ≡ y) ⊎ Among z (insert x l) → (z ≡ x) ⊎ ((z ≡ y) ⊎ Among z l)
      step r (inl e) = inr (inl e)
      step r (inr j) = tail (r j)

      go : (m : List Entry) → Inserted x y l m → (Among z (insert x l) → (z ≡ x) ⊎ Among z l) → Among z m → (z ≡ x) ⊎ ((z ≡ y) ⊎ Among z l)
      go m (inl w) r j = first (subst (Among z) w.1 j)
      go m (inr (inl w)) r j = chosen (better x y) (better_is x y f (a y (inl refl))) (subst (Among z) w.1 j)
      go m (inr (inr w)) r j = step r (subst (Among z) w.1 j)

  insert_new : (l : List Entry) → AllFit l → Bettered x (insert x l)
  unfolding insert
  insert_new [] a = (x, inl refl, refl, omega arith)
  insert_new (y ∷ l) a = go (insert x (y ∷ l)) (inserted x y l f (a y (inl refl))) (insert_new l (λ v j. a v (inr j)))
    where
      go : (m : List Entry) → Inserted x y l m → Bettered x (insert x l) → Bettered x m
      go m (inl w) r = subst (Bettered x) (sym w.1) (x, inl refl, refl, omega arith)
      go m (inr (inl w)) r =
          let c = better_is x y f (a y (inl refl)) in
          subst (Bettered x) (sym w.1)
          (better x y, inl refl, chosen_pair x y (better x y) w.0 c ∙ sym w.0, chosen_first x y (better x y) c)
      go m (inr (inr w)) r = subst (Bettered x) (sym w.1) (bettered_more y x (insert x l) r)

  insert_kept : (l : List Entry) → AllFit l → (z : Entry) → Bettered z l → Bettered z (insert x l)
  unfolding insert
  insert_kept [] a z (v, i, e, h) = absurd i
  insert_kept (y ∷ l) a z (v, i, e, h) =
      go (insert x (y ∷ l)) (inserted x y l f (a y (inl refl))) i (λ j. insert_kept l (λ u k. a u (inr k)) z (v, j, e, h))
    where
      go : (m : List Entry) → Inserted x y l m → (v ≡ y) ⊎ Among v l → (Among v l → Bettered z (insert x l)) → Bettered z m
      go m (inl w) j r = subst (Bettered z) (sym w.1) (v, inr j, e, h)
      go m (inr (inl w)) (inl q) r =
          let c = better_is x y f (a y (inl refl)) in
          let s : rank_of (better x y) ≤ rank_of y = chosen_second x y (better x y) c in
          let t : rank_of v ≡ rank_of y = ap (λ (u : Entry). rank_of u) q in
          subst (Bettered z) (sym w.1)
          (better x y, inl refl, chosen_pair x y (better x y) w.0 c ∙ sym (ap (λ (u : Entry). pair_of u) q) ∙ e, omega arith)
      go m (inr (inl w)) (inr j) r = subst (Bettered z) (sym w.1) (v, inr j, e, h)
      go m (inr (inr w)) (inl q) r = subst (Bettered z) (sym w.1) (v, inl q, e, h)
      go m (inr (inr w)) (inr j) r = subst (Bettered z) (sym w.1) (bettered_more y z (insert x l) (r j))

-- the entries l of the candidates seen
pub record Whole (seen l : List Entry) : Type 0 where
  pub rising : Rising l
  pub from : (z : Entry) → Among z l → Among z seen
  pub all : (z : Entry) → Among z seen → Bettered z l

-- l holds the entries of what was seen before xs
whole_all : (xs seen l : List Entry) → AllFit xs → AllFit seen → Rising l → ((z : Entry) → Among z l → Among z seen) →
    ((z : Entry) → Among z seen → Bettered z l)
    → (all : List Entry) → ((z : Entry) → Among z xs ⊎ Among z seen → Among z all) →
    ((z : Entry) → Among z all → Among z xs ⊎ Among z seen) → Whole all (insert_all xs l)
unfolding insert_all
whole_all [] seen l fx fs r from to all into out =
    record {
      rising = r;
      from = λ z i. into z (inr (from z i));
      all = λ z i. ⊎_elim (λ j. absurd j) (λ j. to z j) (out z i);
    }
whole_all (x ∷ xs) seen l fx fs r from to all into out =
    whole_all xs (x ∷ seen) (insert x l) (λ z i. fx z (inr i)) (fits_more) (insert_rising x (fx x (inl refl)) l fl r) from_more to_more all
    (λ z i. into z (regroup z i)) (λ z i. ungroup z (out z i))
  where
    fl : AllFit l
    fl z i = fs z (from z i)

    fits_more : AllFit (x ∷ seen)
    fits_more z (inl e) = subst Fits (sym e) (fx x (inl refl))
    fits_more z (inr i) = fs z i

    from_more : (z : Entry) → Among z (insert x l) → Among z (x ∷ seen)
    from_more z i = ⊎_elim (λ e. inl e) (λ j. inr (from z j)) (insert_from x (fx x (inl refl)) l fl z i)

    to_more : (z : Entry) → Among z (x ∷ seen) → Bettered z (insert x l)
    to_more z (inl e) = subst (λ (v : Entry). Bettered v (insert x l)) (sym e) (insert_new x (fx x (inl refl)) l fl)
    to_more z (inr i) = insert_kept x (fx x (inl refl)) l fl z (to z i)

    regroup : (z : Entry) → Among z xs ⊎ Among z (x ∷ seen) → Among z (x ∷ xs) ⊎ Among z seen
    regroup z (inl i) = inl (inr i)
    regroup z (inr (inl e)) = inl (inl e)
    regroup z (inr (inr i)) = inr i

    ungroup : (z : Entry) → Among z (x ∷ xs) ⊎ Among z seen → Among z xs ⊎ Among z (x ∷ seen)
    ungroup z (inl (inl e)) = inr (inl e)
    ungroup z (inl (inr i)) = inl i
    ungroup z (inr i) = inr (inr i)

pub whole : (xs : List Entry) → AllFit xs → Whole xs (insert_all xs [])
whole xs f = whole_all xs [] [] f (λ z i. absurd i) tt (λ z i. i) (λ z i. absurd i) xs (λ z i. only z i) (λ z i. inl i)
  where
    only : (z : Entry) → Among z xs ⊎ Among z [] → Among z xs
    only z (inl i) = i
    only z (inr i) = absurd i

pub whole_same : (seen same l : List Entry) → ((z : Entry) → Among z seen → Among z same) → ((z : Entry) → Among z same → Among z seen) →
    Whole seen l → Whole same l
whole_same seen same l f g w = record { rising = w.rising; from = λ z i. f z (w.from z i); all = λ z i. w.all z (g z i) }
