-- A yes to question 11 has one proof: no cell has both code 0 and one of the eight.
use mathlib.Core.Path.{◌≡◌, ap}
use mathlib.Core.Logic.{◌⊎◌, inl, inr}
use mathlib.Core.Bool.{true}
use mathlib.Core.List.{List}
use Prim.Native.Nat.{ℕ}
use Rattle.std.specs.Coded.{Π_prop, Coded-set, coded_ℕ, coded_bool}
use lib.ListN.{get_or}
use Rattle.grid.specs.Routes.{has_code}
use Rattle.grid_laws.proofs.Neighbours.{no_code}
use Rattle.grid_laws.proofs.Tests.{true_false}
use Rattle.route_laws.specs.Receivers.{AllCodes}

one_way : (codes : List ℕ) (c : ℕ) → IsProp ((get_or codes c 0 ≡ 0) ⊎ (has_code codes c ≡ true))
one_way codes c (inl p) (inl q) = ap inl (Coded-set coded_ℕ _ _ p q)
one_way codes c (inl p) (inr q) = true_false q (no_code codes c p)
one_way codes c (inr p) (inl q) = true_false p (no_code codes c q)
one_way codes c (inr p) (inr q) = ap inr (Coded-set coded_bool _ _ p q)

pub AllCodes-prop : (codes : List ℕ) → IsProp (AllCodes codes)
AllCodes-prop codes = Π_prop (one_way codes)
