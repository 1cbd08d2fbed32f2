-- There are at most eight entries for each cell, so their number fits 32 bits.
use mathlib.Core.Path.{◌≡◌}
use mathlib.Core.Bool.{Bool, true, false, not, cond, ◌&&◌}
use mathlib.Core.List.{List, [], ◌∷◌}
use Prim.Native.Nat.{ℕ, zero, suc, ◌+◌, ◌*◌, ◌≤◌}
use native.Mathlib.Omega.{arith}
use lib.Dec.{eqb}
use lib.ListN.{length, get_or, length-append}
use lib.IntN.{ℤ}
use Rattle.grid.specs.declared.Grid.{Grid}
use Rattle.grid.specs.Below.{join_below}
use Rattle.grid.specs.Sheet.{size, is_data, neighbour}
use Rattle.grid.specs.PourPoints.{Entry, candidate, candidates_at, candidates, pair_below, same_pair, better, insert, insert_all, pour_points}

insert_few : (x : Entry) (l : List Entry) → length (insert x l) ≤ length l + 1
unfolding insert
insert_few x [] = omega arith
insert_few x (y ∷ l) = go (pair_below x y) (same_pair x y) (insert_few x l)
  where
    go : (t u : Bool) → length (insert x l) ≤ length l + 1 → length (cond t (x ∷ y ∷ l) (cond u (better x y ∷ l) (y ∷ insert x l)))
        ≤ suc (length l) + 1
    go true u r = omega arith
    go false true r = omega arith
    go false false r = omega arith

insert_all_few : (xs l : List Entry) → length (insert_all xs l) ≤ length xs + length l
unfolding insert_all
insert_all_few [] l = omega arith
insert_all_few (x ∷ xs) l = let a = insert_all_few xs (insert x l) in let b = insert_few x l in omega arith

join_few : (k n : ℕ) (f : ℕ → List Entry) → ((c : ℕ) → length (f c) ≤ k) → length (join_below n f) ≤ n * k
unfolding join_below
join_few k zero f h = omega arith
join_few k (suc n) f h =
    let a = join_few k n f h in
    let b = h n in
    let d = length-append (join_below n f) (f n) in
    let m : suc n * k ≡ n * k + k = omega arith in
    omega arith

one_or_none : (g : Grid) (e : List ℤ) (labels : List ℕ) (c p : ℕ) → length (candidates_at g e labels c p) ≤ 1
unfolding candidates_at
one_or_none g e labels c p = go (is_data e c && is_data e (neighbour g c p) && not (eqb (get_or labels c 0) (get_or labels (neighbour g c p) 0)))
  where
    go : (t : Bool) → length (cond t (candidate e labels c (neighbour g c p) ∷ []) []) ≤ 1
    go true = omega arith
    go false = omega arith

pub few_entries : (g : Grid) (e : List ℤ) (labels : List ℕ) → length (pour_points g e labels) ≤ size g * 8
unfolding pour_points candidates
few_entries g e labels =
    let f : ℕ → List Entry = λ c. join_below 8 (candidates_at g e labels c) in
    let a = insert_all_few (join_below (size g) f) [] in
    let b = join_few 8 (size g) f (λ c. let z = join_few 1 8 (candidates_at g e labels c) (one_or_none g e labels c) in omega arith) in
    omega arith
