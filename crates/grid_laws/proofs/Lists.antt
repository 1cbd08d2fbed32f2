-- Elements that are there, what a store leaves, and a list that is overwritten from its front.
use mathlib.Core.Path.{◌≡◌, refl, sym, ◌∙◌, ap, subst}
use mathlib.Core.Logic.{◌⊎◌, inl, inr}
use mathlib.Core.List.{List, [], ◌∷◌, ◌++◌}
use Prim.Native.Nat.{ℕ, zero, suc, ◌+◌, ◌-◌, ◌≤◌, ◌<◌}
use native.Mathlib.Omega.{arith}
use native.Mathlib.Decide.{dec_lt, ℕ_discrete}
use lib.ListN.{length, get_or, set, drop, length-append, length-drop, get_or-append}
use lib.Seq.{ext_get_or, get_or-append-add, get_or-drop, get_or-set_same, get_or-set_other}

-- an element that is there has no use of the default
pub any_default : {A : Type 0} (l : List A) (i : ℕ) (d b : A) → i < length l → get_or l i d ≡ get_or l i b
any_default [] i d b h = let z : ⊥ = omega arith in absurd z
any_default (x ∷ l) zero d b h = refl
any_default (x ∷ l) (suc i) d b h = any_default l i d b (omega arith)

-- what a store leaves at each index
pub at_set : {A : Type 0} (d : A) (l : List A) (i : ℕ) (v : A) → i < length l → (x : ℕ) →
    ((x ≡ i) × (get_or (set l i v) x d ≡ v)) ⊎ ((x ≡ i → ⊥) × (get_or (set l i v) x d ≡ get_or l x d))
at_set d l i v h x = go (ℕ_discrete x i)
  where
    go : Dec (x ≡ i) → ((x ≡ i) × (get_or (set l i v) x d ≡ v)) ⊎ ((x ≡ i → ⊥) × (get_or (set l i v) x d ≡ get_or l x d))
    go (yes e) = inl (e, rw e (get_or-set_same l i v d h))
    go (no f) = inr (f, get_or-set_other l i x v d f)

-- the values first, and the rest as it was
pub overwritten : {A : Type 0} (d : A) (values old : List A) {count : ℕ} {new : List A}
    → length values ≡ count
    → count ≤ length old
    → length new ≡ length old
    → ((i : ℕ) → i < count → get_or new i d ≡ get_or values i d)
    → ((i : ℕ) → count ≤ i → get_or new i d ≡ get_or old i d)
    → new ≡ values ++ drop count old
overwritten d values old {new = new} e h same front past =
    ext_get_or d new (values ++ drop (length values) old) same_length (λ i l. at i (dec_lt i (length values)))
    ∙ ap (λ (k : ℕ). values ++ drop k old) e
  where
    same_length : length new ≡ length (values ++ drop (length values) old)
    same_length =
        let a = length-append values (drop (length values) old) in
        let b = length-drop (length values) old in
        omega arith

    at : (i : ℕ) → Dec (i < length values) → get_or new i d ≡ get_or (values ++ drop (length values) old) i d
    at i (yes l) = front i (omega arith) ∙ sym (get_or-append values (drop (length values) old) d i l)
    at i (no l) =
        let q : length values + (i - length values) ≡ i = omega arith in
        subst (λ (j : ℕ). get_or new j d ≡ get_or (values ++ drop (length values) old) j d) q
        (past (length values + (i - length values)) (omega arith)
        ∙ sym (get_or-drop (length values) old (i - length values) d)
        ∙ sym (get_or-append-add values (drop (length values) old) (i - length values) d))
