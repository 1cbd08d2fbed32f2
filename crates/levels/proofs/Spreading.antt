-- The look at the eight neighbours of the queue's first.
use mathlib.Core.Path.{◌≡◌, refl, sym, ◌∙◌, ap, subst}
use mathlib.Core.Bool.{true, false}
use mathlib.Core.Logic.{inl, inr, ⊎_elim}
use mathlib.Core.List.{List}
use Prim.Native.Nat.{ℕ, suc, ◌+◌, ◌/◌, ◌%◌, ◌≤◌, ◌<◌}
use native.Mathlib.Omega.{arith}
use lib.ListN.{length, get_or, take, set}
use lib.Seq.{get_or-take}
use lib.IntN.{ℤ}
use Rattle.grid.specs.declared.Grid.{Grid}
use Rattle.grid.specs.Sheet.{size, at, is_data, neighbour}
use Rattle.grid.specs.Directions.{is_equal, is_level_zero}
use Rattle.cells.specs.Steps.{Inner}
use Rattle.flow_laws.specs.Search.{Equal}
use Rattle.flow_laws.specs.Words.{word_level, level_in, Searching}
use Rattle.flow_laws.proofs.Search.{last?, popped}
use Rattle.flow_laws.proofs.Equals.{is_equal_lem, equal_on, equal_back}
use Rattle.flow_laws.proofs.Agree.{equal_data, equal_on_sheet}
use Rattle.flow_laws.proofs.Words.{level_none, level_up, level_here, word_more, word_other, blank_data, data_level}
use Rattle.flow_laws.proofs.Words.{queue_first, marked, searching_room, searching_most, searching_small}
use Rattle.levels.specs.Touched.{Touched}
use Rattle.levels.specs.Spreading.{Spreading}
use Rattle.levels.proofs.Within.{other_flat, flat_within, flat_alike}

-- what the reading of the queue's first, and of its word, needs and gives
pub record Reading (g : Grid) (e : List ℤ) (half : ℕ) (work : List ℕ) (head tail first : ℕ) : Type 0 where
  pub few : head < size g
  pub on : first < size g
  pub low : get_or work first 0 < size g + 257
  pub spreading : Spreading g e half work head tail first (get_or work first 0 + 1) 0

pub reading : {g : Grid} {e : List ℤ} {half : ℕ} {work : List ℕ} {head tail : ℕ} → length e ≡ size g
    → Searching g e half work (size g) head tail → head < tail → Reading g e half work head tail (get_or work (half + head) 0)
reading {g} {e} {half} {work} {head} {tail} len S h =
    let on = (S.search.queued head h).0 in
    record {
      few = omega (arith, searching_most g e len half work S);
      on = on;
      low = searching_small g e len half work S (get_or work (half + head) 0) on;
      spreading =
          record {
            searching = S;
            more = h;
            first = refl;
            high = ap (λ (w : ℕ). w + 1) (get_or-take (size g) work (get_or work (half + head) 0) 0 on);
            done = λ q l. let z : ⊥ = omega arith in absurd z;
          };
    }

module _ {g : Grid} {e : List ℤ} (len : length e ≡ size g) {half : ℕ} {work : List ℕ} {head tail : ℕ} where
  module _ {x word p : ℕ} (P : Spreading g e half work head tail x word p) where
    pub x_on : x < size g
    x_on = rw P.first at (P.searching.search.queued head P.more).0

    x_high : 1 < level_in (size g) work x
    x_high = rw P.first at (P.searching.search.queued head P.more).1

    x_data : is_data e x ≡ true
    x_data = (P.searching.search.from_lower x x_on x_high).1.from_data

    x_flat : is_level_zero g e x ≡ false
    x_flat = other_flat g e x x_on half work P.searching (λ one. let h = x_high in omega arith)

    -- where every side is open it lies within the border
    pub x_within : g.sides ≡ 0 → Inner g (x / g.cols) (x % g.cols)
    x_within sides = flat_within g e x x_on x_data x_flat sides

    -- there is room for a cell without a word
    pub spreading_room : half + size g ≤ length work → (m : ℕ) → m < size g → get_or work m 0 ≡ 0 → half + tail < length work
    spreading_room fits m on none = let r = searching_room g e len half work P.searching m on none in omega arith

    spreading_passed : (is_equal g e x p ≡ true → 0 < get_or work (neighbour g x p) 0) → Spreading g e half work head tail x word (p + 1)
    spreading_passed f =
        record {
          searching = P.searching;
          more = P.more;
          first = P.first;
          high = P.high;
          done = λ q l. ⊎_elim (λ i. P.done q i) (λ i. rw i here) (last? p q l);
        }
      where
        here : is_equal g e x p ≡ true → 0 < level_in (size g) work (neighbour g x p)
        here t = data_level g e len work P.searching.voids (neighbour g x p) (equal_data g e x p t) (f t)

    module _ (hn : size g ≤ half) (hl : half + size g ≤ length work) (hp : p < 8) (m-on : neighbour g x p < size g)
        (none : get_or work (neighbour g x p) 0 ≡ 0) where
      -- the work buffer after it
      abbrev after : List ℕ
      after = set (set work (neighbour g x p) word) (half + tail) (neighbour g x p)

      m_data : is_data e (neighbour g x p) ≡ true
      m_data = blank_data g e len work P.searching.voids (neighbour g x p) m-on none

      no_level : level_in (size g) work (neighbour g x p) ≡ 0
      no_level = level_none _ (get_or-take (size g) work (neighbour g x p) 0 m-on ∙ none)

      m_flat : is_level_zero g e (neighbour g x p) ≡ false
      m_flat = other_flat g e (neighbour g x p) m-on half work P.searching (λ one. let z = no_level in omega arith)

      -- a neighbour without a level is equal
      same : at e (neighbour g x p) ≡ at e x
      same = flat_alike g e x p x_on hp m-on x_data m_data x_flat m_flat

      m_room : tail < size g
      m_room = searching_room g e len half work P.searching (neighbour g x p) m-on none

      beside : Equal g e (neighbour g x p) x
      beside =
          equal_back g e len x (neighbour g x p)
          (record { from_data = x_data; position = p; eight = hp; there = refl; equal = is_equal_lem g e x p m_data same })

      up : word_level word ≡ suc (level_in (size g) work x)
      up =
          let w = word_more (get_or (take (size g) work) x 0) x_high in
          ap word_level (sym P.high) ∙ level_up (get_or (take (size g) work) x 0) w.0

      other : (y : ℕ) → (y ≡ neighbour g x p → ⊥) → get_or (take (size g) after) y 0 ≡ get_or (take (size g) work) y 0
      other y d = word_other (size g) half tail (neighbour g x p) word work hn hl m-on m_room y d

      different : (y : ℕ) → 0 < level_in (size g) work y → y ≡ neighbour g x p → ⊥
      different y h q = let b = no_level in let r = ap (level_in (size g) work) q in omega arith

      spreading_marked : Spreading g e half after head (tail + 1) x word (p + 1)
      spreading_marked =
          record {
            searching =
                marked g e len half work P.searching hn hl (neighbour g x p) x word m-on none beside (let h = x_high in omega arith) up
                (λ j h. rw P.first at (P.searching.search.close head j (omega arith) P.more h))
                (λ i h k. rw P.first at (P.searching.search.sorted head i h k));
            more = let h = P.more in omega arith;
            first = queue_first (size g) half tail (neighbour g x p) word work hn hl m-on m_room head P.more ∙ P.first;
            high = ap (λ (w : ℕ). w + 1) (other x (different x (let a = x_high in omega arith))) ∙ P.high;
            done = λ q l. ⊎_elim (λ i t. kept (neighbour g x q) (P.done q i t)) (λ i t. rw i here) (last? p q l);
          }
        where
          kept : (y : ℕ) → 0 < level_in (size g) work y → 0 < level_in (size g) after y
          kept y h = rw (other y (different y h)) h

          here : 0 < level_in (size g) after (neighbour g x p)
          here =
              let q = level_here (size g) half tail (neighbour g x p) word work hn hl m-on m_room in
              let r = up in
              omega arith

    -- no equal neighbour lies off the sheet
    pub spreading_off : neighbour g x p ≡ size g → Spreading g e half work head tail x word (p + 1)
    spreading_off off = spreading_passed (λ t. let on = equal_on_sheet g e len x p t in let z : ⊥ = omega arith in absurd z)

    pub spreading_more : {work' : List ℕ} {m r : ℕ} → size g ≤ half → half + size g ≤ length work → p < 8 → m ≡ neighbour g x p
        → m < size g → Touched half work work' word tail m r → Spreading g e half work' head r x word (p + 1)
    spreading_more {work'} {m} {r} hn hl hp q on (inl (a, b, f)) = rw (a, b) (spreading_passed (λ t. rw q at f))
    spreading_more {work'} {m} {r} hn hl hp q on (inr (a, b, z)) = rw (a, b, q) (spreading_marked hn hl hp (rw q at on) (rw q at z))

    pub spreading_end : 8 ≤ p → Searching g e half work (size g) (head + 1) tail
    spreading_end h =
        record {
          search =
              popped (equal_back g e len) (equal_on g e len) P.searching.search P.more
              (λ m b. all m (rw P.first at b));
          coded = P.searching.coded;
          voids = P.searching.voids;
        }
      where
        all : (m : ℕ) → Equal g e x m → 0 < level_in (size g) work m
        all m b =
            let l = b.eight in
            subst (λ (y : ℕ). 0 < level_in (size g) work y) b.there (P.done b.position (omega arith) b.equal)
