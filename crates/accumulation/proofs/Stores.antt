-- Marks and words of the tail after a store.
use mathlib.Core.Path.{◌≡◌, refl, sym, ◌∙◌, ap, subst}
use mathlib.Core.Logic.{⊎_elim}
use mathlib.Core.List.{List}
use Prim.Native.Nat.{ℕ, ◌+◌, ◌≤◌, ◌<◌}
use native.Mathlib.Omega.{arith}
use lib.Dec.{eqb, ltb}
use lib.ListN.{length, get_or, set, length-set}
use lib.Seq.{get_or-set_same, get_or-set_other, get_or-take, take-set-le}
use borrow.Author.Tests.{lt-ltb, le-ltb}
use Rattle.grid_laws.proofs.Tests.{test}
use Rattle.grid_laws.proofs.Below.{count_ext}
use Rattle.count_laws.specs.Passing.{FewDonors, DonorsTo}
use Rattle.count_laws.proofs.Donors.{donors_none, donors_fit, donors_more}
use Rattle.accumulation.specs.Tail.{mark_at, word_at, Roomy, Kept, donor_added}

pub kept_none : (n : ℕ) (t : List ℕ) → Kept n t t
kept_none n t = record { same_length = refl; same_marks = refl }

pub kept_store : (n : ℕ) (t₀ t : List ℕ) (k v : ℕ) → Kept n t₀ t → Kept n t₀ (set t (n + k) v)
kept_store n t₀ t k v K =
    record {
      same_length = length-set t (n + k) v ∙ K.same_length;
      same_marks = take-set-le n t (n + k) v (omega arith) ∙ K.same_marks;
    }

pub kept_twice : (n : ℕ) (a b c : List ℕ) → Kept n a b → Kept n b c → Kept n a c
kept_twice n a b c K L = record { same_length = L.same_length ∙ K.same_length; same_marks = L.same_marks ∙ K.same_marks }

pub kept_roomy : (n : ℕ) (t₀ t : List ℕ) → Kept n t₀ t → Roomy n t₀ → Roomy n t
kept_roomy n t₀ t K R = record { long = let a = R.long in let b = K.same_length in omega arith; small = R.small }

pub kept_mark : (n : ℕ) (t₀ t : List ℕ) → Kept n t₀ t → (c : ℕ) → c < n → mark_at t c ≡ mark_at t₀ c
kept_mark n t₀ t K c l = sym (get_or-take n t c 0 l) ∙ ap (λ (x : List ℕ). get_or x c 0) K.same_marks ∙ get_or-take n t₀ c 0 l

pub word_here : (n : ℕ) (t : List ℕ) (k v : ℕ) → n + n ≤ length t → k < n → word_at n (set t (n + k) v) k ≡ v
word_here n t k v h l = get_or-set_same t (n + k) v 0 (omega arith)

pub word_other : (n : ℕ) (t : List ℕ) (k v c : ℕ) → (c ≡ k → ⊥) → word_at n (set t (n + k) v) c ≡ word_at n t c
word_other n t k v c f = get_or-set_other t (n + k) (n + c) v 0 (λ e. f (omega arith))

-- ---- one donor
pub kept_donor : (n : ℕ) (t₀ t : List ℕ) (d : ℕ) → Kept n t₀ t → Kept n t₀ (donor_added n t d)
unfolding donor_added
kept_donor n t₀ t d K =
    ⊎_elim
    (λ y. rw y (kept_store n t₀ t (mark_at t d) (word_at n t (mark_at t d) + 16777216) K))
    (λ y. rw y K)
    (test (ltb (mark_at t d) n))

module _ (n : ℕ) (t₀ t : List ℕ) (d : ℕ) (R : Roomy n t₀) (K : Kept n t₀ t) (few : FewDonors n (mark_at t₀)) (on : d < n)
    (D : DonorsTo n (mark_at t₀) d (word_at n t)) where
  pub donor_fits : (c : ℕ) → c < n → word_at n t c ≤ 134217728
  donor_fits = donors_fit n (mark_at t₀) few d on (word_at n t) D

  pub donor_counted : DonorsTo n (mark_at t₀) (d + 1) (word_at n (donor_added n t d))
  unfolding donor_added
  donor_counted =
      donors_more n (mark_at t₀) few d on (word_at n t) D (word_at n (donor_added n t d))
      (λ h.
      let s = same in
      let l : mark_at t d < n = omega arith in
      let y = lt-ltb (mark_at t d) n l in
      let w : word_at n (donor_added n t d) (mark_at t d) ≡ word_at n t (mark_at t d) + 16777216 =
      rw y (word_here n t (mark_at t d) (word_at n t (mark_at t d) + 16777216)
      (let a = R.long in let b = K.same_length in omega arith) l) in
      subst (λ (x : ℕ). word_at n (donor_added n t d) x ≡ word_at n t x + 16777216) same w)
      (λ k l f.
      ⊎_elim
      (λ y. rw y (word_other n t (mark_at t d) (word_at n t (mark_at t d) + 16777216) k (λ e. f (e ∙ same))))
      (λ y. rw y)
      (test (ltb (mark_at t d) n)))
    where
      same : mark_at t d ≡ mark_at t₀ d
      same = kept_mark n t₀ t K d on

-- what the code of one donor writes
pub donor_none : (n : ℕ) (t : List ℕ) (d next : ℕ) → next ≡ mark_at t d → n ≤ next → t ≡ donor_added n t d
unfolding donor_added
donor_none n t d next e h = rw (le-ltb (mark_at t d) n (omega arith))

pub donor_one : (n : ℕ) (t : List ℕ) (d next : ℕ) → next ≡ mark_at t d → next < n →
    set t (n + next) (get_or t (n + next) 0 + 16777216) ≡ donor_added n t d
unfolding donor_added
donor_one n t d next e h = rw (lt-ltb (mark_at t d) n (omega arith)) (rw e refl)

-- the loop over donors
abbrev pub DonorsFrom : ℕ → List ℕ → List ℕ → ℕ → Type 0
DonorsFrom n t₀ t d = Kept n t₀ t × DonorsTo n (mark_at t₀) d (word_at n t)

pub donors_start : (n : ℕ) (t : List ℕ) → ((c : ℕ) → c < n → word_at n t c ≡ 0) → DonorsFrom n t t 0
donors_start n t z = (kept_none n t, donors_none n (mark_at t) (word_at n t) z)

pub donors_turn : (n : ℕ) (t₀ t u : List ℕ) (d : ℕ) → Roomy n t₀ → FewDonors n (mark_at t₀) → d < n → DonorsFrom n t₀ t d →
    u ≡ donor_added n t d → DonorsFrom n t₀ u (d + 1)
donors_turn n t₀ t u d R few l D e =
    subst (λ (x : List ℕ). DonorsFrom n t₀ x (d + 1)) (sym e)
    (kept_donor n t₀ t d D.0, donor_counted n t₀ t d R D.0 few l D.1)

pub same_few : (n : ℕ) (t₀ t : List ℕ) → Kept n t₀ t → FewDonors n (mark_at t₀) → FewDonors n (mark_at t)
same_few n t₀ t K few c l =
    subst (λ (x : ℕ). x ≤ 8)
    (count_ext n (λ d. eqb (mark_at t₀ d) c) (λ d. eqb (mark_at t d) c) (λ d h. ap (λ (x : ℕ). eqb x c) (sym (kept_mark n t₀ t K d h))))
    (few c l)
