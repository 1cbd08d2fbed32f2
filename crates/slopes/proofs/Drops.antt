-- Drops as differences of keys: the definitions over the keys around a cell.
use mathlib.Core.Path.{◌≡◌, refl, sym, ◌∙◌, ap, ap₂}
use mathlib.Core.Bool.{Bool, true, false, not, cond, ◌&&◌, ◌||◌}
use mathlib.Core.Logic.{⊎_elim}
use mathlib.Core.List.{List}
use Prim.Native.Nat.{ℕ, suc, ◌-◌, ◌*◌, ◌≤◌, ◌<◌}
use native.Mathlib.Nat.{zero-mul}
use native.Mathlib.Decide.{ℕ_discrete, dec_lt}
use native.Mathlib.Omega.{arith}
use lib.Dec.{eqb, ltb}
use lib.ListN.{length, get_or}
use lib.IntN.{ℤ, pos, negsuc}
use lib.Signed.{lt_z, ◌≤ℤ◌}
use borrow.Author.Tests.{ltb-true, lt-ltb, le-ltb, eq-eqb, ne_eqb, eqb-false}
use Rattle.grid.specs.declared.Grid.{Grid}
use Rattle.grid.specs.Below.{table, any_below}
use Rattle.grid.specs.Sheet.{void, at, is_data, neighbour, cell_at, code_at}
use Rattle.grid.specs.Directions.{drop_to, squared_distance, beats, beaten, is_steepest, steepest_sum}
use Rattle.grid.specs.Shapes.{reshaped}
use Rattle.grid_laws.proofs.Tests.{test, and_false_left, cond_true, cond_false, or_none_right}
use Rattle.grid_laws.proofs.Below.{any_ext, no_of_any, sum_ext, is_table, at_table}
use Rattle.shape_laws.proofs.Squares.{square_sum}
use Rattle.cells.specs.Keys.{key_of}
use Rattle.cells.specs.Around.{KnownTo}
use Rattle.cells.proofs.Keys.{data_by_key, no_data_key, zero_no_data, key_falls, key_drop, key_difference}
use Rattle.slopes.specs.Steepest.{keys_of, key_or, edge_keys, distance_of, square_at, unbeaten, steepest_in, any_void, marked_in}
use Rattle.slopes.specs.Steepest.{near_void, inner_sum}

-- the definition of the larger weighted drop, for drops that are not negative, is a comparison of products, as the functions make it
pub beats_products : (g : Grid) (a b q p : ℕ) →
    beats g (pos a) q (pos b) p ≡ ltb (b * b * squared_distance g q) (a * a * squared_distance g p)
unfolding beats
beats_products g a b q p = refl

up_loses : (g : Grid) (a b q p : ℕ) → beats g (negsuc a) q (pos b) p ≡ false
unfolding beats
up_loses g a b q p = refl

nothing_over : (a d x : ℕ) → a ≡ 0 → ltb x (a * a * d) ≡ false
nothing_over a d x e = le-ltb x (a * a * d) (rw e (rw (zero-mul d) (omega arith)))

-- ---- the keys around a cell, gathered before position p; `seen` is what is gathered of a key
pub record Gathered (g : Grid) (e : List ℤ) (c : ℕ) (seen : ℕ → ℕ) (l : List ℕ) (p : ℕ) : Type 0 where
  pub eight : length l ≡ 8
  pub keys : (q : ℕ) → q < p → get_or l q 0 ≡ seen (key_of (at e (neighbour g c q)))
  pub known : KnownTo g e c p

gathered_all : (g : Grid) (e : List ℤ) (c : ℕ) (seen : ℕ → ℕ) (l : List ℕ) (p : ℕ) → Gathered g e c seen l p → 8 ≤ p →
    l ≡ table 8 (λ q. seen (key_of (at e (neighbour g c q))))
gathered_all g e c seen l p G h =
    is_table 8 (λ q. seen (key_of (at e (neighbour g c q)))) l 0 G.eight (λ q b. G.keys q (omega arith))

pub keys_all : (g : Grid) (e : List ℤ) (c : ℕ) (l : List ℕ) (p : ℕ) → Gathered g e c (λ k. k) l p → 8 ≤ p → l ≡ keys_of g e c
unfolding keys_of
keys_all g e c l p G h = gathered_all g e c (λ k. k) l p G h

pub edge_all : (g : Grid) (e : List ℤ) (c : ℕ) (l : List ℕ) (p : ℕ) → Gathered g e c (key_or (key_of (at e c))) l p → 8 ≤ p →
    l ≡ edge_keys g e c
unfolding edge_keys
edge_all g e c l p G h = gathered_all g e c (key_or (key_of (at e c))) l p G h

-- a neighbour's key, or the own
pub key_or_void : (own k : ℕ) → k ≡ 0 → key_or own k ≡ own
unfolding key_or
key_or_void own k z = cond_true own k (eq-eqb k 0 z)

pub key_or_data : (own k : ℕ) → (k ≡ 0 → ⊥) → key_or own k ≡ k
unfolding key_or
key_or_data own k f = cond_false own k (ne_eqb k 0 f)

module _ (g : Grid) (e : List ℤ) (c : ℕ) (known : KnownTo g e c 8) where
  abbrev key : ℕ → ℕ
  key q = key_of (at e (neighbour g c q))

  abbrev own : ℕ
  own = key_of (at e c)

  -- the squared distances to east and west, and to north and south
  abbrev across : ℕ
  across = g.width * g.width

  abbrev along : ℕ
  along = g.height * g.height

  -- ---- over keys that are the own where no data lies, the drops are those of the definition
  module _ (hc : void ≤ℤ at e c) (l : List ℕ) (around : (q : ℕ) → q < 8 → get_or l q 0 ≡ key_or own (key q)) where
    void_here : (q : ℕ) → q < 8 → key q ≡ 0 → (is_data e (neighbour g c q) ≡ false) × (get_or l q 0 ≡ own)
    void_here q h z =
        (zero_no_data e (neighbour g c q) (key q) refl (known q h).0 z, around q h ∙ key_or_void own (key q) z)

    data_here : (q : ℕ) → q < 8 → (key q ≡ 0 → ⊥) → (is_data e (neighbour g c q) ≡ true) × (get_or l q 0 ≡ key q)
    data_here q h f =
        (data_by_key e (neighbour g c q) (key q) refl f, around q h ∙ key_or_data own (key q) f)

    fall_is : (q : ℕ) → q < 8 → (is_data e (neighbour g c q) && lt_z (pos 0) (drop_to g e c q)) ≡ ltb (get_or l q 0) own
    unfolding drop_to
    fall_is q h = go (ℕ_discrete (key q) 0)
      where
        go : Dec (key q ≡ 0) → (is_data e (neighbour g c q) && lt_z (pos 0) (drop_to g e c q)) ≡ ltb (get_or l q 0) own
        go (yes z) =
            let v = void_here q h z in
            let same = v.1 in
            and_false_left (lt_z (pos 0) (drop_to g e c q)) v.0 ∙ sym (le-ltb (get_or l q 0) own (omega arith))
        go (no f) =
            let d = data_here q h f in
            ap₂ ◌&&◌ d.0 (key_falls (at e c) (at e (neighbour g c q)) hc (known q h).0) ∙ ap (λ (x : ℕ). ltb x own) (sym d.1)

    drop_down : (q : ℕ) → q < 8 → get_or l q 0 ≡ key q → key q ≤ own → drop_to g e c q ≡ pos (own - get_or l q 0)
    unfolding drop_to
    drop_down q h d k = key_drop (at e c) (at e (neighbour g c q)) hc (known q h).0 k ∙ ap (λ (x : ℕ). pos (own - x)) (sym d)

    drop_up : (q : ℕ) → q < 8 → own < key q → drop_to g e c q ≡ negsuc (key q - suc own)
    unfolding drop_to
    drop_up q h k = key_difference (at e c) (at e (neighbour g c q)) hc (known q h).0 ∙ cond_true (negsuc (key q - suc own))
        (pos (own - key q)) (lt-ltb own (key q) k)

    abbrev over : ℕ → ℕ → Bool
    over p q = ltb (square_at own l p * squared_distance g q) (square_at own l q * squared_distance g p)

    -- q beats p, where p has a drop above 0
    beats_is : (p q : ℕ) → p < 8 → q < 8 → get_or l p 0 < own →
        (is_data e (neighbour g c q) && beats g (drop_to g e c q) q (drop_to g e c p) p) ≡ over p q
    beats_is p q hp hq lp = near (ℕ_discrete (key q) 0)
      where
        here : get_or l p 0 ≡ key p
        here = (data_here p hp (λ z. let same = (void_here p hp z).1 in let y : ⊥ = omega arith in absurd y)).1

        down : drop_to g e c p ≡ pos (own - get_or l p 0)
        down = drop_down p hp here (let y = here in omega arith)

        level : own - get_or l q 0 ≡ 0 → over p q ≡ false
        level z = nothing_over (own - get_or l q 0) (squared_distance g p) (square_at own l p * squared_distance g q) z

        go : get_or l q 0 ≡ key q → Dec (own < key q) → beats g (drop_to g e c q) q (drop_to g e c p) p ≡ over p q
        go d (yes k) =
            ap₂ (λ (x y : ℤ). beats g x q y p) (drop_up q hq k) down ∙ up_loses g (key q - suc own) (own - get_or l p 0) q p
            ∙ sym (level (omega arith))
        go d (no k) =
            ap₂ (λ (x y : ℤ). beats g x q y p) (drop_down q hq d (omega arith)) down
            ∙ beats_products g (own - get_or l q 0) (own - get_or l p 0) q p

        near : Dec (key q ≡ 0) → (is_data e (neighbour g c q) && beats g (drop_to g e c q) q (drop_to g e c p) p) ≡ over p q
        near (yes z) =
            let v = void_here q hq z in
            let same = v.1 in
            and_false_left (beats g (drop_to g e c q) q (drop_to g e c p) p) v.0 ∙ sym (level (omega arith))
        near (no f) =
            let d = data_here q hq f in
            ap (λ (t : Bool). t && beats g (drop_to g e c q) q (drop_to g e c p) p) d.0 ∙ go d.1 (dec_lt own (key q))

    steep_is : (p : ℕ) → p < 8 → is_steepest g e c p ≡ unbeaten (distance_of across along) own l p
    unfolding is_steepest beaten unbeaten squared_distance
    steep_is p h = go (ltb (get_or l p 0) own) refl
      where
        go : (t : Bool) → ltb (get_or l p 0) own ≡ t → is_steepest g e c p ≡ (ltb (get_or l p 0) own && not (any_below 8 (over p)))
        go true t =
            ap₂ ◌&&◌ (fall_is p h)
            (ap not (any_ext 8 (λ q. is_data e (neighbour g c q) && beats g (drop_to g e c q) q (drop_to g e c p) p) (over p)
            (λ q k. beats_is p q h k (ltb-true (get_or l p 0) own t))))
        go false t = and_false_left (not (beaten g e c p)) (fall_is p h ∙ t) ∙ sym (and_false_left (not (any_below 8 (over p))) t)

    steepest_is : steepest_in across along own l ≡ steepest_sum g e c
    unfolding steepest_sum steepest_in
    steepest_is =
        sum_ext 8 (λ p. cond (unbeaten (distance_of across along) own l p) (code_at p) 0) (λ p. cond (is_steepest g e c p) (code_at p) 0)
        (λ p h. ap (λ (t : Bool). cond t (code_at p) 0) (sym (steep_is p h)))

  -- for any cell
  pub edge_is : void ≤ℤ at e c → steepest_in across along own (edge_keys g e c) ≡ steepest_sum g e c
  unfolding edge_keys
  edge_is hc = steepest_is hc (edge_keys g e c) (λ q h. at_table 8 (λ p. key_or own (key p)) q 0 h)

  abbrev l : List ℕ
  l = keys_of g e c

  around : (q : ℕ) → q < 8 → get_or l q 0 ≡ key q
  unfolding keys_of
  around q h = at_table 8 key q 0 h

  -- ---- a void is near exactly where a key is 0
  module _ (hc : void ≤ℤ at e c) where
    void_near : near_void g e c ≡ any_void (key_of (at e c)) l
    unfolding near_void any_void
    void_near =
        ap₂ ◌||◌ (no_data_key e c (key_of (at e c)) hc refl)
        (any_ext 8 (λ q. not (is_data e (neighbour g c q))) (λ q. eqb (get_or l q 0) 0)
        (λ q h. no_data_key e (neighbour g c q) (get_or l q 0) (known q h).0 (around q h)))

    pub marked_is : marked_in across along (key_of (at e c)) l ≡ inner_sum g e c
    unfolding marked_in inner_sum any_void
    marked_is = ⊎_elim near clear (test (any_void (key_of (at e c)) l))
      where
        near : any_void (key_of (at e c)) l ≡ true → marked_in across along (key_of (at e c)) l ≡ inner_sum g e c
        near t =
            cond_true 256 (steepest_in across along (key_of (at e c)) l) t ∙ sym (cond_true 256 (steepest_sum g e c) (void_near ∙ t))

        no_void : (q : ℕ) → any_void (key_of (at e c)) l ≡ false → q < 8 → key q ≡ 0 → ⊥
        no_void q t h z =
            eqb-false (get_or l q 0) 0
            (no_of_any 8 (λ r. eqb (get_or l r 0) 0) (or_none_right (eqb (key_of (at e c)) 0) (any_below 8 (λ r. eqb (get_or l r 0) 0)) t) q h)
            (around q h ∙ z)

        clear : any_void (key_of (at e c)) l ≡ false → marked_in across along (key_of (at e c)) l ≡ inner_sum g e c
        clear t =
            cond_false 256 (steepest_in across along (key_of (at e c)) l) t
            ∙ steepest_is hc l (λ q h. around q h ∙ sym (key_or_data own (key q) (no_void q t h)))
            ∙ sym (cond_false 256 (steepest_sum g e c) (void_near ∙ t))

-- square cells go by the distances of 1 by 1
pub square_marked : (g : Grid) (e : List ℤ) (c : ℕ) → g.width ≡ g.height → 0 < g.width → KnownTo g e c 8 →
    void ≤ℤ at e c → marked_in 1 1 (key_of (at e c)) (keys_of g e c) ≡ inner_sum g e c
unfolding keys_of inner_sum near_void neighbour cell_at
square_marked g e c square wide known hc =
    marked_is (reshaped g 1 1) e c known hc ∙ ap (cond (near_void g e c) 256) (sym (square_sum g square wide e c))

-- what the functions work out of a cell's key and the keys around it
pub marked_by : (w h : ℕ) {own k : ℕ} {l m : List ℕ} {sum r : ℕ} → own ≡ k → l ≡ m → sum ≡ steepest_in w h own l →
    r ≡ cond (any_void own l) 256 sum → r ≡ marked_in w h k m
unfolding marked_in
marked_by w h eo el es er = er ∙ rw (es, eo, el) refl
