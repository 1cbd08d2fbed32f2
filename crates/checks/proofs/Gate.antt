-- A gate is what is answered, given what is asked later. Either every question of it is answered by yes, and then what is asked later is
-- the answer; or a no stands, whatever is asked later. Gates compose, so that a call's questions are one expression.
use mathlib.Core.Path.{◌≡◌, refl, sym, ◌∙◌, ap}
use mathlib.Core.Bool.{Bool, true, false, cond}
use mathlib.Core.Logic.{◌⊎◌, inl, inr}
use Prim.Native.Nat.{ℕ, ◌<◌}
use native.Mathlib.Omega.{arith}
use lib.Dec.{T, eqb}
use borrow.Author.Tests.{ne_eqb, eqb-true}
use Rattle.grid.specs.declared.Answer.{Answer}
use Rattle.grid.specs.Checks.{refusal, accepted, is_accepted, ask}
use Rattle.grid_laws.proofs.Tests.{test, T_true, cond_true, cond_false}

-- every answer is yes, with what that says
pub record Passed (gate : Answer → Answer) (Fact : Type 0) : Type 0 where
  pub then : (later : Answer) → gate later ≡ later
  pub fact : Fact

-- some answer is no
pub record Refused (gate : Answer → Answer) : Type 0 where
  pub above : 0 < (gate accepted).number
  pub stands : (later : Answer) → gate later ≡ gate accepted

abbrev pub Gate : (Answer → Answer) → Type 0 → Type 0
Gate gate Fact = Passed gate Fact ⊎ Refused gate

-- one question
pub one : (holds : Bool) (number place : ℕ) → 0 < number → Gate (ask holds (refusal number place)) (holds ≡ true)
one holds number place low = go (test holds)
  where
    go : (holds ≡ true) ⊎ (holds ≡ false) → Gate (ask holds (refusal number place)) (holds ≡ true)
    go (inl y) = inl (record { then = λ later. cond_true later (refusal number place) y; fact = y })
    go (inr n) =
        inr (record {
          above = rw (cond_false accepted (refusal number place) n) low;
          stands = λ later. cond_false later (refusal number place) n ∙ sym (cond_false accepted (refusal number place) n);
        })

-- one gate after the other
pub both : {s t : Answer → Answer} {A B : Type 0} → Gate s A → Gate t B → Gate (λ later. s (t later)) (A × B)
both {t = t} (inl p) (inl q) = inl (record { then = λ later. p.then (t later) ∙ q.then later; fact = (p.fact, q.fact) })
both {t = t} (inl p) (inr f) =
    inr (record {
      above = rw (p.then (t accepted)) f.above;
      stands = λ later. p.then (t later) ∙ f.stands later ∙ sym (p.then (t accepted));
    })
both {t = t} (inr f) _ =
    inr (record {
      above = rw (f.stands (t accepted)) f.above;
      stands = λ later. f.stands (t later) ∙ sym (f.stands (t accepted));
    })

-- what follows from its fact is a gate's fact
pub weaken : {gate : Answer → Answer} {A B : Type 0} → (A → B) → Gate gate A → Gate gate B
weaken f (inl p) = inl (record { then = p.then; fact = f p.fact })
weaken f (inr n) = inr n

-- a no leaves a result as it is
pub kept : {A : Type 0} {number : ℕ} {y : A} → (number ≡ 0 → ⊥) → (x : A) → y ≡ cond (eqb number 0) x y
kept {number = number} {y = y} n x = sym (cond_false x y (ne_eqb number 0 n))

-- a gate by its own answer
pub by_answer : {gate : Answer → Answer} {A : Type 0} → Gate gate A → (later : Answer) →
    gate later ≡ cond (is_accepted (gate accepted)) later (gate accepted)
by_answer {gate} (inl p) later = p.then later ∙ sym (cond_true _ _ (ap is_accepted (p.then accepted)))
by_answer {gate} (inr f) later =
    let l = f.above in
    f.stands later ∙ sym (cond_false _ _ (ne_eqb (gate accepted).number 0 (λ e. let z : ⊥ = omega arith in z)))

pub number_zero : (a : Answer) → T (is_accepted a) → a.number ≡ 0
number_zero a t = eqb-true a.number 0 (T_true (is_accepted a) t)

-- a gate before an answer of 0 is passed, and what is asked later is answered by 0 too
pub through : {gate : Answer → Answer} {Fact : Type 0} → Gate gate Fact → (later : Answer) → (gate later).number ≡ 0 →
    Passed gate Fact × (later.number ≡ 0)
through (inl p) later z = (p, sym (ap (λ (a : Answer). a.number) (p.then later)) ∙ z)
through {gate} (inr f) later z =
    let l = f.above in
    let q : (gate later).number ≡ (gate accepted).number = ap (λ (a : Answer). a.number) (f.stands later) in
    let y : ⊥ = omega arith in
    absurd y

-- by the number that a gate answered
module _ {gate : Answer → Answer} {Fact : Type 0} (is : Gate gate Fact) {r : Answer} (asked : r ≡ gate accepted) where
  pub passed : r.number ≡ 0 → Passed gate Fact
  passed z = (through is accepted (sym (ap (λ (a : Answer). a.number) asked) ∙ z)).0

  pub refused : (r.number ≡ 0 → ⊥) → Refused gate
  refused n = go is
    where
      go : Gate gate Fact → Refused gate
      go (inl p) = absurd (n (ap (λ (a : Answer). a.number) (asked ∙ p.then accepted)))
      go (inr f) = f

  -- a no is the answer, whatever is asked later
  pub answered_no : (r.number ≡ 0 → ⊥) → (later : Answer) → r ≡ gate later
  answered_no n later = asked ∙ sym ((refused n).stands later)

  -- after a yes what is asked later is the answer
  module _ (z : r.number ≡ 0) where
    pub answered_yes : (later : Answer) → later ≡ gate later
    answered_yes later = sym ((passed z).then later)

    pub is_accepted_lem : r ≡ accepted
    is_accepted_lem = asked ∙ (passed z).then accepted

    -- the next question, with `a` for its no
    pub next_no : {holds : Bool} (a later : Answer) → holds ≡ false → a ≡ gate (ask holds a later)
    next_no {holds} a later n = sym (cond_false later a n) ∙ answered_yes (ask holds a later)

    pub next_yes : {holds : Bool} (a later : Answer) → holds ≡ true → later ≡ gate (ask holds a later)
    next_yes {holds} a later y = sym (cond_true later a y) ∙ answered_yes (ask holds a later)

-- what a yes to every question of a gate says
pub fact_of : {gate : Answer → Answer} {Fact : Type 0} → Gate gate Fact → T (is_accepted (gate accepted)) → Fact
fact_of {gate} is t = (passed is refl (number_zero (gate accepted) t)).fact
