-- One cell of the pass, as it stands in the tail.
use mathlib.Core.Path.{◌≡◌, refl, sym, ◌∙◌, subst}
use mathlib.Core.Logic.{◌⊎◌, inl, inr, ⊎_elim}
use mathlib.Core.Bool.{true, false}
use mathlib.Core.List.{List}
use Prim.Native.Nat.{ℕ, ◌+◌, ◌-◌, ◌≤◌, ◌<◌}
use native.Mathlib.Omega.{arith}
use lib.Dec.{ltb}
use lib.ListN.{length, get_or, set, length-set}
use borrow.Author.Count.{below_more}
use borrow.Author.Tests.{ltb-true, ltb-false, lt-ltb, le-ltb}
use Rattle.grid_laws.proofs.Tests.{test, cond_true, cond_false}
use Rattle.count_laws.specs.Passing.{undone, FewDonors, DonorsTo}
use Rattle.count_laws.proofs.Sums.{same?}
use Rattle.count_laws.proofs.Words.{more_awaits, waiting_small}
use Rattle.count_laws.proofs.Passing.{same_passing, no_ring_of_one, receiver_waits, receiver_awaits, pass_one, pass_less}
use Rattle.count_laws.proofs.Donors.{pass_begins, all_undone}
use Rattle.accumulation.specs.Tail.{mark_at, word_at, Roomy, Kept, closed, handed_word, passed, onward, Ready, Between, Settled, Down}
use Rattle.accumulation.specs.Tail.{Going, Accumulated}
use Rattle.accumulation.proofs.Stores.{kept_none, kept_store, kept_twice, kept_mark, word_here, word_other}

-- the words of the tail after the counting of donors begin the pass
pub begins : (n : ℕ) (t₀ t : List ℕ) → Kept n t₀ t → FewDonors n (mark_at t₀) → DonorsTo n (mark_at t₀) n (word_at n t) → Between n t₀ t n
begins n t₀ t K few D =
    record {
      kept = K;
      passing = pass_begins n (mark_at t₀) few (word_at n t) D;
      counted = sym (all_undone n (mark_at t₀) few (word_at n t) D);
    }

-- the marks of two tails are the same: what is said with those of the one holds with those of the other
pub again_between : (n : ℕ) (t₀ t : List ℕ) (left : ℕ) → Between n t₀ t left → Between n t t left
again_between n t₀ t left B =
    record {
      kept = kept_none n t;
      passing = same_passing n (mark_at t₀) (mark_at t) (word_at n t) (kept_mark n t₀ t B.kept) B.passing;
      counted = B.counted;
    }

pub then_between : (n : ℕ) (t₀ t u : List ℕ) (left : ℕ) → Kept n t₀ t → Between n t u left → Between n t₀ u left
then_between n t₀ t u left K B =
    record {
      kept = kept_twice n t₀ t u K B.kept;
      passing = same_passing n (mark_at t) (mark_at t₀) (word_at n u) (λ d h. sym (kept_mark n t₀ t K d h)) B.passing;
      counted = B.counted;
    }

module _ (n : ℕ) (t₀ t : List ℕ) (left c : ℕ) (R : Roomy n t₀) (B : Between n t₀ t left) (on : c < n)
    (ready : word_at n t c < 16777216) where
  same : mark_at t c ≡ mark_at t₀ c
  same = kept_mark n t₀ t B.kept c on

  pub is_ready : Ready n t c
  is_ready =
      record {
        on = on;
        none_awaited = ready;
        other = λ h e. no_ring_of_one n (mark_at t₀) (word_at n t) B.passing c on ready (sym same ∙ e);
        awaits =
            λ h. rw same
            (more_awaits (word_at n t (mark_at t₀ c)) (receiver_awaits n (mark_at t₀) (word_at n t) B.passing c on ready (far h)));
        waits =
            λ h. rw same
            (waiting_small (word_at n t (mark_at t₀ c)) (receiver_waits n (mark_at t₀) (word_at n t) B.passing c on ready (far h)));
      }
    where
      far : mark_at t c < n → mark_at t₀ c < n
      far h = let s = same in omega arith

  long : n + n ≤ length t
  long = let a = R.long in let b = B.kept.same_length in omega arith

  not_self : mark_at t c ≡ c → ⊥
  not_self e = no_ring_of_one n (mark_at t₀) (word_at n t) B.passing c on ready (sym same ∙ e)

  -- the words after the cell
  word_closed : word_at n (passed n t c) c ≡ word_at n t c + 4278190080
  unfolding passed closed
  word_closed =
      ⊎_elim
      (λ y. rw y (word_other n (set t (n + c) (word_at n t c + 4278190080)) (mark_at t c) (handed_word n t c) c (λ e. not_self (sym e))
      ∙ word_here n t c (word_at n t c + 4278190080) long on))
      (λ y. rw y (word_here n t c (word_at n t c + 4278190080) long on))
      (test (ltb (mark_at t c) n))

  pub word_handed : mark_at t c < n → word_at n (passed n t c) (mark_at t c) ≡ handed_word n t c
  unfolding passed closed
  word_handed h =
      rw (lt-ltb (mark_at t c) n h)
      (word_here n (set t (n + c) (word_at n t c + 4278190080)) (mark_at t c) (handed_word n t c)
      (rw (length-set t (n + c) (word_at n t c + 4278190080)) long) h)

  pub word_kept : (k : ℕ) → (k ≡ c → ⊥) → (k ≡ mark_at t c → ⊥) → word_at n (passed n t c) k ≡ word_at n t k
  unfolding passed closed
  word_kept k f g =
      ⊎_elim
      (λ y. rw y (word_other n (set t (n + c) (word_at n t c + 4278190080)) (mark_at t c) (handed_word n t c) k g
      ∙ word_other n t c (word_at n t c + 4278190080) k f))
      (λ y. rw y (word_other n t c (word_at n t c + 4278190080) k f))
      (test (ltb (mark_at t c) n))

  pub kept_passed : Kept n t₀ (passed n t c)
  unfolding passed closed
  kept_passed =
      ⊎_elim
      (λ y. rw y (kept_store n t₀ (set t (n + c) (word_at n t c + 4278190080)) (mark_at t c) (handed_word n t c) first))
      (λ y. rw y first)
      (test (ltb (mark_at t c) n))
    where
      first : Kept n t₀ (set t (n + c) (word_at n t c + 4278190080))
      first = kept_store n t₀ t c (word_at n t c + 4278190080) B.kept

  handed_there : mark_at t₀ c < n → word_at n (passed n t c) (mark_at t₀ c) ≡ word_at n t (mark_at t₀ c) - 16777216 + word_at n t c + 1
  handed_there h =
      subst (λ (x : ℕ). word_at n (passed n t c) x ≡ word_at n t x - 16777216 + word_at n t c + 1) same
      (word_handed (let s = same in let l : mark_at t c < n = omega arith in l))

  kept_there : (k : ℕ) → k < n → (k ≡ c → ⊥) → (k ≡ mark_at t₀ c → ⊥) → word_at n (passed n t c) k ≡ word_at n t k
  kept_there k l f g = word_kept k f (λ e. g (e ∙ same))

  one_less : left ≡ undone n (word_at n (passed n t c)) + 1
  one_less =
      B.counted
      ∙ pass_less n (mark_at t₀) (word_at n t) B.passing c on ready R.small (word_at n (passed n t c)) word_closed
      handed_there kept_there

  pub some_left : 1 ≤ left
  some_left = let a = one_less in omega arith

  pub passes : Between n t₀ (passed n t c) (left - 1)
  passes =
      record {
        kept = kept_passed;
        passing =
            pass_one n (mark_at t₀) (word_at n t) B.passing c on ready R.small (word_at n (passed n t c)) word_closed handed_there
            kept_there;
        counted = let a = one_less in omega arith;
      }

-- ---- the walk
pub down_starts : (n start : ℕ) (t : List ℕ) (left : ℕ) → Between n t t left → word_at n t start < 16777216 → Going n start t t start left
down_starts n start t left B h =
    record { between = B; settled = λ k l f w. ⊎_elim (λ e. absurd (f e)) (λ s. s) w; in_hand = λ l. h }

pub down_on : (n start : ℕ) (t₀ t : List ℕ) (c left : ℕ) → Roomy n t₀ → Going n start t₀ t c left → c < n →
    Going n start t₀ (passed n t c) (onward n t c) (left - 1)
unfolding onward
down_on n start t₀ t c left R G on =
    record { between = passes n t₀ t left c R G.between on ready; settled = stays; in_hand = next }
  where
    ready : word_at n t c < 16777216
    ready = G.in_hand on

    onto : mark_at t c < n → handed_word n t c < 16777216 → onward n t c ≡ mark_at t c
    onto h l = rw (lt-ltb (mark_at t c) n h, lt-ltb (handed_word n t c) 16777216 l)

    stays : (k : ℕ) → k < n → (k ≡ onward n t c → ⊥) → (k ≡ start) ⊎ (16777216 ≤ word_at n t₀ k) → 16777216 ≤ word_at n (passed n t c) k
    stays k l f w = ⊎_elim at_c past_c (same? k c)
      where
        far : k ≡ mark_at t c → mark_at t c < n
        far e = omega arith

        handed : k ≡ mark_at t c → 16777216 ≤ handed_word n t c → 16777216 ≤ word_at n (passed n t c) k
        handed e b = let a = word_handed n t₀ t left c R G.between on ready (far e) in rw e (omega arith)

        at_c : k ≡ c → 16777216 ≤ word_at n (passed n t c) k
        at_c e = let a = word_closed n t₀ t left c R G.between on ready in rw e (omega arith)

        past_c : (k ≡ c → ⊥) → 16777216 ≤ word_at n (passed n t c) k
        past_c g =
            ⊎_elim
            (λ e.
            ⊎_elim
            (λ y. absurd (f (e ∙ sym (onto (far e) (ltb-true (handed_word n t c) 16777216 y)))))
            (λ y. handed e (ltb-false (handed_word n t c) 16777216 y))
            (test (ltb (handed_word n t c) 16777216)))
            (λ h. let a = word_kept n t₀ t left c R G.between on ready k g h in let b = G.settled k l g w in omega arith)
            (same? k (mark_at t c))

    next : onward n t c < n → word_at n (passed n t c) (onward n t c) < 16777216
    next h =
        ⊎_elim
        (λ y. ⊎_elim (λ z. here (ltb-true (mark_at t c) n y) (ltb-true (handed_word n t c) 16777216 z)) (λ z. stuck y z)
        (test (ltb (handed_word n t c) 16777216)))
        (λ y. let e : onward n t c ≡ n = cond_false _ _ y in let x : ⊥ = omega arith in absurd x)
        (test (ltb (mark_at t c) n))
      where
        stuck : ltb (mark_at t c) n ≡ true → ltb (handed_word n t c) 16777216 ≡ false → word_at n (passed n t c) (onward n t c) < 16777216
        stuck y z = let e : onward n t c ≡ n = cond_true _ _ y ∙ cond_false _ _ z in let x : ⊥ = omega arith in absurd x

        here : mark_at t c < n → handed_word n t c < 16777216 → word_at n (passed n t c) (onward n t c) < 16777216
        here far l = let a = word_handed n t₀ t left c R G.between on ready far in rw (onto far l) (omega arith)

pub down_turn : (n start : ℕ) (t₀ t u : List ℕ) (c next left : ℕ) → Roomy n t₀ → Going n start t₀ t c left → c < n → u ≡ passed n t c →
    next ≡ onward n t c
    → Going n start t₀ u next (left - 1)
down_turn n start t₀ t u c next left R G on e q = rw e (rw q (down_on n start t₀ t c left R G on))

pub down_ends : (n start : ℕ) (t₀ t : List ℕ) (c left : ℕ) → Going n start t₀ t c left → n ≤ c → Down n start t₀ t left
down_ends n start t₀ t c left G h =
    record { between = G.between; settled = λ k l w. G.settled k l (λ e. let z : ⊥ = omega arith in absurd z) w }

-- ---- what the code of one cell writes
module _ (n : ℕ) (t : List ℕ) (c next : ℕ) (e : next ≡ mark_at t c) where
  pub closes : n ≤ next → (set t (n + c) (get_or t (n + c) 0 + 4278190080) ≡ passed n t c) × (n ≡ onward n t c)
  unfolding passed closed onward
  closes h = let y = le-ltb (mark_at t c) n (let l : n ≤ mark_at t c = omega arith in l) in (rw y, rw y)

  pub hands : next < n →
      set (set t (n + c) (get_or t (n + c) 0 + 4278190080)) (n + next) (get_or t (n + next) 0 - 16777216 + get_or t (n + c) 0 + 1) ≡ passed n t c
  unfolding passed closed
  hands h = rw (lt-ltb (mark_at t c) n (let l : mark_at t c < n = omega arith in l)) (rw e refl)

  pub goes_on : next < n → get_or t (n + next) 0 - 16777216 + get_or t (n + c) 0 + 1 < 16777216 → next ≡ onward n t c
  unfolding onward
  goes_on h l =
      let k : mark_at t c < n = omega arith in
      let w : handed_word n t c < 16777216 = subst (λ (x : ℕ). get_or t (n + x) 0 - 16777216 + get_or t (n + c) 0 + 1 < 16777216) e l in
      rw (lt-ltb (mark_at t c) n k, lt-ltb (handed_word n t c) 16777216 w) e

  pub stops : next < n → 16777216 ≤ get_or t (n + next) 0 - 16777216 + get_or t (n + c) 0 + 1 → n ≡ onward n t c
  unfolding onward
  stops h l =
      let k : mark_at t c < n = omega arith in
      let w : 16777216 ≤ handed_word n t c = subst (λ (x : ℕ). 16777216 ≤ get_or t (n + x) 0 - 16777216 + get_or t (n + c) 0 + 1) e l in
      rw (lt-ltb (mark_at t c) n k, le-ltb (handed_word n t c) 16777216 w)

  -- the receiver's word has room
  pub word_awaits : Ready n t c → next < n → 16777216 ≤ get_or t (n + next) 0
  word_awaits Q h = rw e (Q.awaits (let k : mark_at t c < n = omega arith in k))

  pub word_waits : Ready n t c → next < n → get_or t (n + next) 0 < 4278190080
  word_waits Q h = rw e (Q.waits (let k : mark_at t c < n = omega arith in k))

-- ---- the scan
pub settled_already : (n i : ℕ) (t : List ℕ) (left : ℕ) → Between n t t left → 16777216 ≤ word_at n t i → Down n i t t left
settled_already n i t left B h = record { between = B; settled = λ k l w. ⊎_elim (λ e. rw e h) (λ s. s) w }

abbrev pub Scanning : ℕ → List ℕ → List ℕ → ℕ → ℕ → Type 0
Scanning n t₀ t left i = Between n t₀ t left × Settled n i t

pub scan_starts : (n : ℕ) (t : List ℕ) → Between n t t n → Scanning n t t n 0
scan_starts n t B = (B, λ k l. let z : ⊥ = omega arith in absurd z)

pub scan_turn : (n : ℕ) (t₀ t u : List ℕ) (left left' i : ℕ) → Scanning n t₀ t left i → i < n → Down n i t u left' →
    Scanning n t₀ u left' (i + 1)
scan_turn n t₀ t u left left' i S on D = (
  then_between n t₀ t u left' S.0.kept D.between,
  below_more _ i (λ k l. D.settled k (omega arith) (inr (S.1 k l))) (D.settled i on (inl refl)),
)

pub scan_ends : (n : ℕ) (t₀ t : List ℕ) (left i : ℕ) → Scanning n t₀ t left i → n ≤ i → Accumulated n t₀ t left
scan_ends n t₀ t left i S h = record { between = S.0; settled = λ k l. S.1 k (omega arith) }

-- the scan, after the donors of the tail that came in
pub scanned_after : (n : ℕ) (t₀ t u : List ℕ) (left : ℕ) → Kept n t₀ t → Accumulated n t u left → Accumulated n t₀ u left
scanned_after n t₀ t u left K A = record { between = then_between n t₀ t u left K A.between; settled = A.settled }
