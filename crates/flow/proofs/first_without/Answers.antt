use Rattle.std.proofs.Common.{◌≡◌, ℕ, ◌≤◌, ◌<◌, List, length, get_or, take, Option, None, Some, sym, ◌∙◌, eqb, rules, tests, arith, false}
use Rattle.std.specs.Option.{MatchOption, unwrap_or}
use Rattle.std.specs.List.{HoldsAt, AllWithin}
use Rattle.std.proofs.lemmas.Iterator.{IsFirst-from_position, YieldsList-from_slice}
use Rattle.std.proofs.lemmas.List.{length-take-le}
use lib.Seq.{get_or-take}
use borrow.Author.Tests.{eq-eqb, ne_eqb}
use Rattle.grid.specs.Below.{first_below}
use Rattle.grid_laws.proofs.Below.{first_is, first_none}
use Rattle.flow.proofs.first_without.Goals as goal

abbrev Some₀ : ℕ → Type 0
Some₀ x = x ≡ 0 → ⊥

module _ (n : ℕ) (work : List ℕ) (long : n ≤ length work) where
  abbrev first : List ℕ
  first = take n work

  passed : (i : ℕ) → i ≤ n → AllWithin Some₀ first 0 i → (j : ℕ) → j < i → eqb (get_or work j 0) 0 ≡ false
  passed i h m j l = ne_eqb (get_or work j 0) 0 (λ z. m j 0 (omega arith) l (get_or-take n work j 0 (omega arith) ∙ z))

  first_blank : (o : Option ℕ)
      → MatchOption o (AllWithin Some₀ first 0 (length first)) (λ i. (i < length first) × HoldsAt (λ x. x ≡ 0) first i × AllWithin Some₀ first 0 i)
      → unwrap_or o n ≡ first_below n (λ c. eqb (get_or work c 0) 0)
  first_blank None m =
      sym (first_none n (λ c. eqb (get_or work c 0) 0) (passed n (omega arith) (rw (length-take-le n work long) at m)))
  first_blank (Some i) m =
      let here : i < n = rw (length-take-le n work long) at m.0 in
      sym (first_is n (λ c. eqb (get_or work c 0) 0) i here
      (eq-eqb (get_or work i 0) 0 (sym (get_or-take n work i 0 here) ∙ m.1 0)) (passed i (omega arith) m.2))

pub returns : goal.returns
returns c =
    c.unwrap_or.ensures
    ∙ first_blank c.args.n c.args.work.now c.requires c.position.result
    (IsFirst-from_position _ _ c.position.result (λ x. x ≡ 0) Some₀ c.position.ensures.ran (YieldsList-from_slice (take c.args.n c.args.work.now) cc)
    (λ x q k. search (rules, tests)) (λ x q k. search (rules, tests)))
