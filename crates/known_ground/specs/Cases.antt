-- "Known ground": each case is what a definition gives, and what documents 01 and 02 say it must be.
use Rattle.std.specs.Prelude.{Bool, true, false, cond, ◌&&◌, List, [], ◌∷◌, map, ℕ, eqb, get_or, set, ℤ, pos, negsuc, ◌-ℤ◌}
use Rattle.grid.specs.Below.{table}
use Rattle.grid.specs.declared.Answer.{Answer}
use Rattle.grid.specs.declared.Collected.{Collected}
use Rattle.grid.specs.declared.Grid.{Grid}
use Rattle.grid.specs.Sheet.{grid_of, closed_grid, shaped_grid, eq_z}
use Rattle.grid.specs.Outlet.{is_gap, is_outlet}
use Rattle.grid.specs.Fill.{filled}
use Rattle.grid.specs.Directions.{choice, directions}
use Rattle.grid.specs.Routes.{route, counts, labels, watersheds, first_repeat}
use Rattle.grid.specs.Starts.{starts}
use Rattle.grid.specs.Ponds.{ponds, pond_count, pond_level, pond_cells, pond_volume}
use Rattle.grid.specs.Culverts.{opened}
use Rattle.grid.specs.Checks.{accepted, ask_size, fill_check, directions_check, drain_check, codes_check, ponds_check, culverts_check}
use Rattle.grid.specs.Checks.{watersheds_check}
use Rattle.grid.specs.Endings.{ending_check, shared_ending}
use Rattle.grid.specs.Crews.{largest, stands_on, next_crew, total_of, hand_in_check, run_check, collected}
use Rattle.grid.specs.Operations.{Operation, run, hand_in, collect, after_all, zeros}
use Rattle.grid.specs.Frames.{text_sheet, elevation_text, program_text}
use Rattle.grid.specs.Writing.{write_check, raised}

pub data Case : Type 0 where
  numbers : List ℕ → List ℕ → Case
  elevations : List ℤ → List ℤ → Case

same : List ℕ → List ℕ → Bool
same [] [] = true
same [] (b ∷ m) = false
same (a ∷ l) [] = false
same (a ∷ l) (b ∷ m) = eqb a b && same l m

same_z : List ℤ → List ℤ → Bool
same_z [] [] = true
same_z [] (b ∷ m) = false
same_z (a ∷ l) [] = false
same_z (a ∷ l) (b ∷ m) = eq_z a b && same_z l m

holds : Case → Bool
holds (numbers got said) = same got said
holds (elevations got said) = same_z got said

unfoldable pub all_hold : List Case → Bool
unfolding same same_z holds
all_hold [] = true
all_hold (k ∷ ks) = holds k && all_hold ks

-- ---- the sheets

-- the frames of the printed example, line by line
printed_input : List ℕ
printed_input =
    48 ∷ 48 ∷ 48 ∷ 51 ∷ 48 ∷ 48 ∷ 48 ∷ 51 ∷ 10 ∷
    48 ∷ 48 ∷ 48 ∷ 53 ∷ 48 ∷ 48 ∷ 48 ∷ 53 ∷ 48 ∷ 48 ∷ 48 ∷ 53 ∷ 10 ∷
    48 ∷ 48 ∷ 48 ∷ 53 ∷ 48 ∷ 48 ∷ 48 ∷ 49 ∷ 48 ∷ 48 ∷ 48 ∷ 52 ∷ 10 ∷
    48 ∷ 48 ∷ 48 ∷ 53 ∷ 48 ∷ 48 ∷ 48 ∷ 53 ∷ 48 ∷ 48 ∷ 48 ∷ 53 ∷ 10 ∷ []

-- what is printed for them
printed_output : List ℕ
printed_output =
    48 ∷ 48 ∷ 48 ∷ 51 ∷ 48 ∷ 48 ∷ 48 ∷ 51 ∷ 10 ∷
    48 ∷ 48 ∷ 48 ∷ 53 ∷ 48 ∷ 48 ∷ 48 ∷ 53 ∷ 48 ∷ 48 ∷ 48 ∷ 53 ∷ 10 ∷
    48 ∷ 48 ∷ 48 ∷ 53 ∷ 48 ∷ 48 ∷ 48 ∷ 52 ∷ 48 ∷ 48 ∷ 48 ∷ 52 ∷ 10 ∷
    48 ∷ 48 ∷ 48 ∷ 53 ∷ 48 ∷ 48 ∷ 48 ∷ 53 ∷ 48 ∷ 48 ∷ 48 ∷ 53 ∷ 10 ∷
    50 ∷ 48 ∷ 56 ∷ 48 ∷ 48 ∷ 50 ∷ 10 ∷
    50 ∷ 48 ∷ 48 ∷ 50 ∷ 48 ∷ 50 ∷ 10 ∷
    50 ∷ 48 ∷ 48 ∷ 56 ∷ 48 ∷ 50 ∷ 10 ∷
    48 ∷ 48 ∷ 48 ∷ 48 ∷ 48 ∷ 48 ∷ 48 ∷ 48 ∷ 48 ∷ 48 ∷ 48 ∷ 48 ∷ 48 ∷ 48 ∷ 48 ∷ 48 ∷ 48 ∷ 48 ∷ 48 ∷ 48 ∷ 48 ∷ 48 ∷ 48 ∷ 48 ∷ 10 ∷
    48 ∷ 48 ∷ 48 ∷ 48 ∷ 48 ∷ 48 ∷ 48 ∷ 48 ∷ 48 ∷ 48 ∷ 48 ∷ 48 ∷ 48 ∷ 48 ∷ 48 ∷ 48 ∷ 48 ∷ 48 ∷ 48 ∷ 48 ∷ 48 ∷ 48 ∷ 48 ∷ 49 ∷ 10 ∷
    48 ∷ 48 ∷ 48 ∷ 48 ∷ 48 ∷ 48 ∷ 48 ∷ 48 ∷ 48 ∷ 48 ∷ 48 ∷ 48 ∷ 48 ∷ 48 ∷ 48 ∷ 48 ∷ 48 ∷ 48 ∷ 48 ∷ 48 ∷ 48 ∷ 48 ∷ 48 ∷ 48 ∷ 10 ∷
    48 ∷ 48 ∷ 48 ∷ 48 ∷ 48 ∷ 48 ∷ 48 ∷ 49 ∷ 48 ∷ 48 ∷ 48 ∷ 48 ∷ 48 ∷ 48 ∷ 48 ∷ 50 ∷ 48 ∷ 48 ∷ 48 ∷ 48 ∷ 48 ∷ 48 ∷ 48 ∷ 51 ∷ 10 ∷
    48 ∷ 48 ∷ 48 ∷ 48 ∷ 48 ∷ 48 ∷ 48 ∷ 52 ∷ 48 ∷ 48 ∷ 48 ∷ 48 ∷ 48 ∷ 48 ∷ 48 ∷ 54 ∷ 48 ∷ 48 ∷ 48 ∷ 48 ∷ 48 ∷ 48 ∷ 48 ∷ 54 ∷ 10 ∷
    48 ∷ 48 ∷ 48 ∷ 48 ∷ 48 ∷ 48 ∷ 48 ∷ 55 ∷ 48 ∷ 48 ∷ 48 ∷ 48 ∷ 48 ∷ 48 ∷ 48 ∷ 56 ∷ 48 ∷ 48 ∷ 48 ∷ 48 ∷ 48 ∷ 48 ∷ 48 ∷ 57 ∷ 10 ∷ []

-- two rows of three voids
voids : List ℤ
voids =
    negsuc 32767 ∷ negsuc 32767 ∷ negsuc 32767 ∷
    negsuc 32767 ∷ negsuc 32767 ∷ negsuc 32767 ∷ []

-- 3 by 3, where the middle cell of 100 drops only to the east and to the north-east, to these elevations
between : ℤ → ℤ → List ℤ
between east north_east =
    pos 200 ∷ pos 200 ∷ north_east ∷
    pos 200 ∷ pos 100 ∷ east ∷
    pos 200 ∷ pos 200 ∷ pos 200 ∷ []

-- the code of the middle cell
middle : ℤ → ℤ → ℕ
middle east north_east = get_or (directions (grid_of 3 3) (between east north_east)) 4 0

-- 5 by 5: border 9 but for 3 at row 2, column 4, inside all 3
basin : List ℤ
basin =
    pos 9 ∷ pos 9 ∷ pos 9 ∷ pos 9 ∷ pos 9 ∷
    pos 9 ∷ pos 3 ∷ pos 3 ∷ pos 3 ∷ pos 9 ∷
    pos 9 ∷ pos 3 ∷ pos 3 ∷ pos 3 ∷ pos 3 ∷
    pos 9 ∷ pos 3 ∷ pos 3 ∷ pos 3 ∷ pos 9 ∷
    pos 9 ∷ pos 9 ∷ pos 9 ∷ pos 9 ∷ pos 9 ∷ []

-- 5 by 5, void only in the middle: a gap
hole : List ℤ
hole =
    pos 5 ∷ pos 5 ∷ pos 5 ∷ pos 5 ∷ pos 5 ∷
    pos 5 ∷ pos 5 ∷ pos 5 ∷ pos 5 ∷ pos 5 ∷
    pos 5 ∷ pos 5 ∷ negsuc 32767 ∷ pos 5 ∷ pos 5 ∷
    pos 5 ∷ pos 5 ∷ pos 5 ∷ pos 5 ∷ pos 5 ∷
    pos 5 ∷ pos 5 ∷ pos 5 ∷ pos 5 ∷ pos 5 ∷ []

-- 5 by 5: a ring of voids round the cell in the middle
island : List ℤ
island =
    pos 5 ∷ pos 5 ∷ pos 5 ∷ pos 5 ∷ pos 5 ∷
    pos 5 ∷ negsuc 32767 ∷ negsuc 32767 ∷ negsuc 32767 ∷ pos 5 ∷
    pos 5 ∷ negsuc 32767 ∷ pos 5 ∷ negsuc 32767 ∷ pos 5 ∷
    pos 5 ∷ negsuc 32767 ∷ negsuc 32767 ∷ negsuc 32767 ∷ pos 5 ∷
    pos 5 ∷ pos 5 ∷ pos 5 ∷ pos 5 ∷ pos 5 ∷ []

-- 4 by 4: a void in the sheet's corner, and one that touches it at a corner
lagoon : List ℤ
lagoon =
    negsuc 32767 ∷ pos 5 ∷ pos 5 ∷ pos 5 ∷
    pos 5 ∷ negsuc 32767 ∷ pos 5 ∷ pos 5 ∷
    pos 5 ∷ pos 5 ∷ pos 5 ∷ pos 5 ∷
    pos 5 ∷ pos 5 ∷ pos 5 ∷ pos 5 ∷ []

-- 4 by 5: a gap of three cells, and beside it four cells, the last of them on the east side
lake : ℤ → ℤ → ℤ → ℤ → List ℤ
lake a b c d =
    pos 9 ∷ pos 9 ∷ pos 9 ∷ pos 9 ∷ pos 9 ∷
    pos 9 ∷ negsuc 32767 ∷ a ∷ b ∷ pos 9 ∷
    pos 9 ∷ negsuc 32767 ∷ negsuc 32767 ∷ c ∷ d ∷
    pos 9 ∷ pos 9 ∷ pos 9 ∷ pos 9 ∷ pos 9 ∷ []

-- 4 by 6: a pond of two cells that touch at a corner, and one of a cell whose bank is 5 in the east
pools : List ℤ
pools =
    pos 9 ∷ pos 9 ∷ pos 9 ∷ pos 9 ∷ pos 9 ∷ pos 9 ∷
    pos 9 ∷ pos 3 ∷ pos 9 ∷ pos 9 ∷ pos 2 ∷ pos 5 ∷
    pos 9 ∷ pos 9 ∷ pos 4 ∷ pos 9 ∷ pos 9 ∷ pos 9 ∷
    pos 9 ∷ pos 9 ∷ pos 9 ∷ pos 9 ∷ pos 9 ∷ pos 9 ∷ []

pool_numbers : List ℕ
pool_numbers =
    0 ∷ 0 ∷ 0 ∷ 0 ∷ 0 ∷ 0 ∷
    0 ∷ 1 ∷ 0 ∷ 0 ∷ 2 ∷ 0 ∷
    0 ∷ 0 ∷ 1 ∷ 0 ∷ 0 ∷ 0 ∷
    0 ∷ 0 ∷ 0 ∷ 0 ∷ 0 ∷ 0 ∷ []

-- 3 by 5: a bank of 6 between a hollow of 2 and the way out in the east
bank : List ℤ
bank =
    pos 9 ∷ pos 9 ∷ pos 9 ∷ pos 9 ∷ pos 9 ∷
    pos 9 ∷ pos 2 ∷ pos 6 ∷ pos 3 ∷ pos 1 ∷
    pos 9 ∷ pos 9 ∷ pos 9 ∷ pos 9 ∷ pos 9 ∷ []

-- with the bank's cell at 2
opened_bank : List ℤ
opened_bank =
    pos 9 ∷ pos 9 ∷ pos 9 ∷ pos 9 ∷ pos 9 ∷
    pos 9 ∷ pos 2 ∷ pos 2 ∷ pos 3 ∷ pos 1 ∷
    pos 9 ∷ pos 9 ∷ pos 9 ∷ pos 9 ∷ pos 9 ∷ []

-- and with the cell east of it at −5
road : List ℤ
road =
    pos 9 ∷ pos 9 ∷ pos 9 ∷ pos 9 ∷ pos 9 ∷
    pos 9 ∷ pos 2 ∷ pos 2 ∷ negsuc 4 ∷ pos 1 ∷
    pos 9 ∷ pos 9 ∷ pos 9 ∷ pos 9 ∷ pos 9 ∷ []

-- 3 by 4: a valley of 2, 4, 6, 5 from west to east between banks of 8
cut : List ℤ
cut =
    pos 8 ∷ pos 8 ∷ pos 8 ∷ pos 8 ∷
    pos 2 ∷ pos 4 ∷ pos 6 ∷ pos 5 ∷
    pos 8 ∷ pos 8 ∷ pos 8 ∷ pos 8 ∷ []

-- with all sides closed but the east one
eastward : Grid
eastward = closed_grid 3 4 13

-- 2 by 2: the void, −1, 2,571 and the largest elevation, read from text with letters of both cases
corners : List ℤ
corners =
    negsuc 32767 ∷ negsuc 0 ∷
    pos 2571 ∷ pos 32767 ∷ []

-- 00020002, 8000fFfF, 0a0B7fff
corners_read : List ℕ
corners_read =
    48 ∷ 48 ∷ 48 ∷ 50 ∷ 48 ∷ 48 ∷ 48 ∷ 50 ∷ 10 ∷
    56 ∷ 48 ∷ 48 ∷ 48 ∷ 102 ∷ 70 ∷ 102 ∷ 70 ∷ 10 ∷
    48 ∷ 97 ∷ 48 ∷ 66 ∷ 55 ∷ 102 ∷ 102 ∷ 102 ∷ 10 ∷ []

-- 00020002, 8000FFFF, 0A0B7FFF
corners_written : List ℕ
corners_written =
    48 ∷ 48 ∷ 48 ∷ 50 ∷ 48 ∷ 48 ∷ 48 ∷ 50 ∷ 10 ∷
    56 ∷ 48 ∷ 48 ∷ 48 ∷ 70 ∷ 70 ∷ 70 ∷ 70 ∷ 10 ∷
    48 ∷ 65 ∷ 48 ∷ 66 ∷ 55 ∷ 70 ∷ 70 ∷ 70 ∷ 10 ∷ []

one_where : Bool → ℕ
one_where t = cond t 1 0

number_and_place : Answer → List ℕ
number_and_place a = a.number ∷ a.place ∷ []

-- for culverts in the bank, with result sheets and a work buffer of these lengths
culverts_in : List ℕ → List ℤ → ℕ → ℕ → List ℕ
unfolding number_and_place
culverts_in cells levels results work =
    number_and_place (culverts_check (grid_of 3 5) bank cells levels results results results results work)

-- for a sheet of this many rows, columns and elevations, and a buffer of this length
write_in : ℕ → ℕ → ℕ → ℕ → List ℕ
unfolding number_and_place
write_in rows cols given room = number_and_place (write_check (grid_of rows cols) given room)

-- for two lists of cells on the bank's sheet
lists_in : List ℕ → List ℕ → List ℕ
unfolding number_and_place
lists_in first second = number_and_place (ending_check (grid_of 3 5) first second)

-- number and place of watersheds for starts on a 2 by 3 sheet whose fourth cell is a void and whose rows flow east
gauged : List ℕ → List ℕ
unfolding number_and_place
gauged starts = number_and_place (watersheds_check (grid_of 2 3) (2 ∷ 2 ∷ 2 ∷ 0 ∷ 2 ∷ 2 ∷ []) starts 6 24)

basin_codes : List ℕ
basin_codes = directions (grid_of 5 5) basin

opened_codes : List ℕ
opened_codes = directions (grid_of 3 5) (filled (grid_of 3 5) opened_bank)

eastward_codes : List ℕ
unfolding eastward
eastward_codes = directions eastward (filled eastward cut)

-- the code of the middle cell of 3 by 3, at elevation 0, with cells of a width and a height, where the others lie these numbers below it:
-- east, north, north-east; the rest lies level
code_amid : (width height east north north_east : ℕ) → ℕ
code_amid width height east north north_east =
    get_or (directions (shaped_grid 3 3 0 width height)
    (pos 0 ∷ (pos 0 -ℤ pos north) ∷ (pos 0 -ℤ pos north_east) ∷ pos 0 ∷ pos 0 ∷ (pos 0 -ℤ pos east) ∷ pos 0 ∷ pos 0 ∷ pos 0 ∷ [])) 4 0

shape_in : (sides width height room : ℕ) → List ℕ
unfolding number_and_place cut
shape_in sides width height room = number_and_place (drain_check (shaped_grid 3 4 sides width height) cut room 12 12 12 48)

-- two streams that end beside a void: from cell 0 over cell 1, and at cell 3
streams : List ℕ
streams = 2 ∷ 2 ∷ 0 ∷ 32 ∷ []

-- the crews' state after these operations
crews_after : List Operation → List ℕ
unfolding streams
crews_after l = after_all (grid_of 1 4) streams zeros l

-- crews 0 and 31 hand in the cells where the streams begin, and so many turns are taken, in two runs
traced : ℕ → ℕ → List Operation
traced a b = hand_in 16 0 0 ∷ hand_in 16 31 3 ∷ run 16 a ∷ run 16 b ∷ []

-- where the two stand, whose turn is next, and the total
standing : List ℕ → List ℕ
standing s = stands_on s 0 ∷ stands_on s 31 ∷ next_crew s ∷ total_of s ∷ []

collected_in : List ℕ → ℕ → List ℕ
collected_in s crew =
    let c : Collected = collected s crew in
    c.number ∷ c.place ∷ c.status ∷ c.cell ∷ []

-- for a hand-in, and for a run, on the streams
hand_in_answer : ℕ → ℕ → ℕ → List ℕ → List ℕ
unfolding streams number_and_place
hand_in_answer work crew cell s = number_and_place (hand_in_check (grid_of 1 4) streams work crew cell s)

run_in : ℕ → List ℕ → List ℕ
unfolding streams number_and_place
run_in work s = number_and_place (run_check (grid_of 1 4) streams work s)

-- ---- the table

unfoldable pub known_ground : List Case
unfolding printed_input printed_output voids between middle basin hole island lagoon lake one_where pools pool_numbers bank opened_bank road
    cut eastward corners corners_read corners_written number_and_place culverts_in write_in lists_in code_amid shape_in gauged basin_codes
    opened_codes eastward_codes streams crews_after traced standing collected_in hand_in_answer run_in
known_ground =
    -- P1: the printed example, from text to text
    numbers (program_text printed_input) printed_output
    -- P2: a 1 by 1 sheet of 7
    ∷ elevations (filled (grid_of 1 1) (pos 7 ∷ [])) (pos 7 ∷ [])
    ∷ numbers (directions (grid_of 1 1) (pos 7 ∷ [])) (32 ∷ [])
    ∷ numbers (counts (grid_of 1 1) (32 ∷ [])) (0 ∷ [])
    ∷ numbers (labels (grid_of 1 1) (32 ∷ [])) (1 ∷ [])
    -- P3: all voids: accepted, codes, counts, labels 0
    ∷ numbers ((drain_check (grid_of 2 3) voids 6 6 6 6 24).number ∷ []) (0 ∷ [])
    ∷ elevations (filled (grid_of 2 3) voids) voids
    ∷ numbers (directions (grid_of 2 3) voids) (0 ∷ 0 ∷ 0 ∷ 0 ∷ 0 ∷ 0 ∷ [])
    ∷ numbers (counts (grid_of 2 3) (0 ∷ 0 ∷ 0 ∷ 0 ∷ 0 ∷ 0 ∷ [])) (0 ∷ 0 ∷ 0 ∷ 0 ∷ 0 ∷ 0 ∷ [])
    ∷ numbers (labels (grid_of 2 3) (0 ∷ 0 ∷ 0 ∷ 0 ∷ 0 ∷ 0 ∷ [])) (0 ∷ 0 ∷ 0 ∷ 0 ∷ 0 ∷ 0 ∷ [])
    -- P4 side drop 2, corner 3: corner; P5 3 and 4: side; P6 5 and 7: side; P7 12 and 17: corner
    ∷ numbers (middle (pos 98) (pos 97) ∷ []) (1 ∷ [])
    ∷ numbers (middle (pos 97) (pos 96) ∷ []) (2 ∷ [])
    ∷ numbers (middle (pos 95) (pos 93) ∷ []) (2 ∷ [])
    ∷ numbers (middle (pos 88) (pos 83) ∷ []) (1 ∷ [])
    -- P8: entries of the table
    ∷ numbers (map choice (34 ∷ 7 ∷ 24 ∷ 138 ∷ 168 ∷ 255 ∷ [])) (2 ∷ 2 ∷ 8 ∷ 2 ∷ 32 ∷ 1 ∷ [])
    -- P9: the outlet's count, and the code at row 2, column 2
    ∷ elevations (filled (grid_of 5 5) basin) basin
    ∷ numbers (get_or (counts (grid_of 5 5) basin_codes) 14 0 ∷ get_or basin_codes 12 0 ∷ []) (9 ∷ 2 ∷ [])
    -- P10, a sheet with a gap: row 1, column 1 is no outlet, and its code; the gap's own code is 0, and no code points at it
    ∷ numbers (one_where (is_outlet (grid_of 5 5) hole 6) ∷ one_where (is_gap (grid_of 5 5) hole 12) ∷ []) (0 ∷ 1 ∷ [])
    ∷ numbers (directions (grid_of 5 5) hole)
    (32 ∷ 128 ∷ 128 ∷ 128 ∷ 2 ∷
    32 ∷ 64 ∷ 128 ∷ 1 ∷ 2 ∷
    32 ∷ 32 ∷ 0 ∷ 2 ∷ 2 ∷
    32 ∷ 16 ∷ 8 ∷ 4 ∷ 2 ∷
    32 ∷ 8 ∷ 8 ∷ 8 ∷ 2 ∷ [])
    -- voids join over corners: beside the lagoon row 1, column 2 is an outlet; with west and north closed the lagoon is a gap
    ∷ numbers (one_where (is_outlet (grid_of 4 4) lagoon 6) ∷ one_where (is_gap (grid_of 4 4) lagoon 5) ∷ []) (1 ∷ 0 ∷ [])
    ∷ numbers (one_where (is_outlet (closed_grid 4 4 5) lagoon 6) ∷ one_where (is_gap (closed_grid 4 4 5) lagoon 0) ∷ []) (0 ∷ 1 ∷ [])
    ∷ numbers (one_where (is_outlet (closed_grid 4 4 1) lagoon 6) ∷ one_where (is_gap (closed_grid 4 4 1) lagoon 0) ∷ []) (1 ∷ 0 ∷ [])
    -- no water goes out by a gap: low ground beside it drains east, and is filled to its banks where the east side is closed
    ∷ elevations (filled (grid_of 4 5) (lake (pos 4) (pos 3) (pos 5) (pos 2))) (lake (pos 4) (pos 3) (pos 5) (pos 2))
    ∷ elevations (filled (closed_grid 4 5 2) (lake (pos 4) (pos 3) (pos 5) (pos 2))) (lake (pos 9) (pos 9) (pos 9) (pos 9))
    -- an island in a gap has no way out: 18, also printed
    ∷ numbers (number_and_place (drain_check (grid_of 5 5) island 25 25 25 25 100)) (18 ∷ 12 ∷ [])
    ∷ numbers (program_text (elevation_text (grid_of 5 5) island))
    (70 ∷ 70 ∷ 49 ∷ 50 ∷ 48 ∷ 48 ∷ 48 ∷ 48 ∷ 48 ∷ 48 ∷ 48 ∷ 67 ∷ 10 ∷ [])
    -- voids alone are accepted whatever is closed
    ∷ numbers (number_and_place (fill_check (closed_grid 2 3 15) voids 6 24)) (0 ∷ 0 ∷ [])
    -- ponds: their numbers, how many they are, and the three columns; columns too short get 14 with that number as place
    ∷ numbers (ponds (grid_of 4 6) pools) pool_numbers
    ∷ numbers (pond_count (grid_of 4 6) pools ∷ []) (2 ∷ [])
    ∷ elevations (table 2 (pond_level (grid_of 4 6) (filled (grid_of 4 6) pools) pool_numbers)) (pos 9 ∷ pos 5 ∷ [])
    ∷ numbers (table 2 (pond_cells (grid_of 4 6) pool_numbers)) (2 ∷ 1 ∷ [])
    ∷ numbers (table 2 (pond_volume (grid_of 4 6) pools (filled (grid_of 4 6) pools) pool_numbers)) (11 ∷ 3 ∷ [])
    ∷ numbers ((ponds_check (grid_of 4 6) pools 24 1 1 1 96).number ∷ (ponds_check (grid_of 4 6) pools 24 1 1 1 96).place ∷ []) (14 ∷ 2 ∷ [])
    -- columns of unlike length get 8, before 9
    ∷ numbers ((ponds_check (grid_of 4 6) pools 24 1 2 1 0).number ∷ []) (8 ∷ [])
    -- a culvert: the opened sheet, and the four results that the call gives for it
    ∷ elevations (opened bank (7 ∷ []) (pos 2 ∷ [])) opened_bank
    ∷ elevations (filled (grid_of 3 5) opened_bank)
    (pos 9 ∷ pos 9 ∷ pos 9 ∷ pos 9 ∷ pos 9 ∷
    pos 9 ∷ pos 3 ∷ pos 3 ∷ pos 3 ∷ pos 1 ∷
    pos 9 ∷ pos 9 ∷ pos 9 ∷ pos 9 ∷ pos 9 ∷ [])
    ∷ numbers opened_codes (32 ∷ 128 ∷ 128 ∷ 128 ∷ 2 ∷ 32 ∷ 2 ∷ 2 ∷ 2 ∷ 2 ∷ 32 ∷ 8 ∷ 8 ∷ 8 ∷ 2 ∷ [])
    ∷ numbers (counts (grid_of 3 5) opened_codes) (0 ∷ 0 ∷ 0 ∷ 0 ∷ 0 ∷ 0 ∷ 0 ∷ 1 ∷ 2 ∷ 3 ∷ 0 ∷ 0 ∷ 0 ∷ 0 ∷ 0 ∷ [])
    ∷ numbers (labels (grid_of 3 5) opened_codes) (1 ∷ 2 ∷ 3 ∷ 4 ∷ 5 ∷ 6 ∷ 10 ∷ 10 ∷ 10 ∷ 10 ∷ 11 ∷ 12 ∷ 13 ∷ 14 ∷ 15 ∷ [])
    -- the cell's own elevation passes, and the lowest level at an outlet; above it and −32,768 get 16, off the sheet and a void 15
    ∷ numbers (culverts_in (7 ∷ []) (pos 6 ∷ []) 15 60) (0 ∷ 0 ∷ [])
    ∷ numbers (culverts_in (4 ∷ []) (negsuc 32766 ∷ []) 15 60) (0 ∷ 0 ∷ [])
    ∷ numbers (culverts_in (7 ∷ []) (pos 7 ∷ []) 15 60) (16 ∷ 0 ∷ [])
    ∷ numbers (culverts_in (7 ∷ []) (negsuc 32767 ∷ []) 15 60) (16 ∷ 0 ∷ [])
    ∷ numbers (culverts_in (15 ∷ []) (negsuc 32767 ∷ []) 15 60) (15 ∷ 0 ∷ [])
    ∷ numbers (number_and_place (culverts_check (grid_of 5 5) hole (12 ∷ []) (negsuc 32766 ∷ []) 25 25 25 25 100)) (15 ∷ 0 ∷ [])
    -- all culverts of a road: in either order the same sheet, a cell named twice at the lower level, and none the plain sheet
    ∷ elevations (opened bank (8 ∷ 7 ∷ []) (negsuc 4 ∷ pos 2 ∷ [])) road
    ∷ elevations (opened bank (7 ∷ 8 ∷ []) (pos 2 ∷ negsuc 4 ∷ [])) road
    ∷ elevations (opened bank (7 ∷ 7 ∷ []) (pos 2 ∷ pos 5 ∷ [])) opened_bank
    ∷ elevations (opened bank (7 ∷ 7 ∷ []) (pos 5 ∷ pos 2 ∷ [])) opened_bank
    ∷ elevations (opened bank [] []) bank
    ∷ numbers (culverts_in [] [] 15 60) (0 ∷ 0 ∷ [])
    -- a level above another's is judged on the elevation; the place is the first bad entry's in the list, and its number 15 before 16
    ∷ numbers (culverts_in (7 ∷ 7 ∷ []) (pos 2 ∷ pos 5 ∷ []) 15 60) (0 ∷ 0 ∷ [])
    ∷ numbers (culverts_in (7 ∷ 7 ∷ 15 ∷ []) (pos 2 ∷ pos 7 ∷ pos 2 ∷ []) 15 60) (16 ∷ 1 ∷ [])
    ∷ numbers (culverts_in (7 ∷ 15 ∷ 7 ∷ []) (pos 2 ∷ negsuc 32767 ∷ pos 7 ∷ []) 15 60) (15 ∷ 1 ∷ [])
    ∷ numbers (culverts_in (7 ∷ 4 ∷ 4294967295 ∷ []) (pos 6 ∷ pos 9 ∷ pos 0 ∷ []) 15 60) (15 ∷ 2 ∷ [])
    -- lists of two lengths get 7, before 8; a bad entry is asked for after 9
    ∷ numbers (culverts_in (7 ∷ []) (pos 2 ∷ pos 2 ∷ []) 14 0) (7 ∷ 0 ∷ [])
    ∷ numbers (culverts_in (7 ∷ 15 ∷ []) (pos 2 ∷ []) 14 0) (7 ∷ 0 ∷ [])
    ∷ numbers (culverts_in (15 ∷ []) (negsuc 32767 ∷ []) 14 0) (8 ∷ 0 ∷ [])
    ∷ numbers (culverts_in (15 ∷ []) (negsuc 32767 ∷ []) 15 59) (9 ∷ 0 ∷ [])
    -- closed sides: the four results where the east side alone is open, with a lake against the west side
    ∷ elevations (filled eastward cut)
    (pos 8 ∷ pos 8 ∷ pos 8 ∷ pos 8 ∷
    pos 6 ∷ pos 6 ∷ pos 6 ∷ pos 5 ∷
    pos 8 ∷ pos 8 ∷ pos 8 ∷ pos 8 ∷ [])
    ∷ numbers eastward_codes (8 ∷ 8 ∷ 4 ∷ 2 ∷ 2 ∷ 2 ∷ 2 ∷ 2 ∷ 128 ∷ 128 ∷ 1 ∷ 2 ∷ [])
    ∷ numbers (counts eastward eastward_codes) (0 ∷ 0 ∷ 0 ∷ 0 ∷ 2 ∷ 5 ∷ 6 ∷ 9 ∷ 0 ∷ 0 ∷ 0 ∷ 0 ∷ [])
    ∷ numbers (labels eastward eastward_codes) (8 ∷ 8 ∷ 8 ∷ 4 ∷ 8 ∷ 8 ∷ 8 ∷ 8 ∷ 8 ∷ 8 ∷ 8 ∷ 12 ∷ [])
    -- one cell leaves by the first open side; no corner step leads off the sheet; a void on closed sides alone is a gap
    ∷ numbers (directions (closed_grid 1 1 1) (pos 7 ∷ [])) (2 ∷ [])
    ∷ numbers (directions (closed_grid 1 1 3) (pos 7 ∷ [])) (128 ∷ [])
    ∷ numbers (directions (closed_grid 1 1 7) (pos 7 ∷ [])) (8 ∷ [])
    ∷ numbers (directions (closed_grid 2 2 11) (pos 7 ∷ pos 7 ∷ pos 7 ∷ pos 7 ∷ [])) (128 ∷ 128 ∷ 1 ∷ 64 ∷ [])
    ∷ numbers (directions (closed_grid 2 2 9) (pos 7 ∷ pos 7 ∷ negsuc 32767 ∷ pos 7 ∷ [])) (128 ∷ 2 ∷ 0 ∷ 2 ∷ [])
    ∷ numbers (directions (closed_grid 2 2 14) (pos 7 ∷ pos 7 ∷ negsuc 32767 ∷ pos 7 ∷ [])) (32 ∷ 16 ∷ 0 ∷ 32 ∷ [])
    ∷ numbers (number_and_place (fill_check (closed_grid 2 2 15) (pos 7 ∷ pos 7 ∷ negsuc 32767 ∷ pos 7 ∷ []) 4 16)) (18 ∷ 0 ∷ [])
    -- no side open and no void: 18 at the first cell, before 10 and 14 and after 15 and 16; 16 is no number of sides: 17, after 6, before 7
    ∷ numbers (number_and_place (fill_check (closed_grid 3 4 15) cut 12 48)) (18 ∷ 0 ∷ [])
    ∷ numbers (number_and_place (directions_check (closed_grid 3 4 15) cut 12 48)) (18 ∷ 0 ∷ [])
    ∷ numbers (number_and_place (drain_check (closed_grid 3 4 15) cut 12 12 12 12 48)) (18 ∷ 0 ∷ [])
    ∷ numbers (number_and_place (ponds_check (closed_grid 3 4 15) cut 12 0 0 0 48)) (18 ∷ 0 ∷ [])
    ∷ numbers (number_and_place (culverts_check (closed_grid 3 4 15) cut (7 ∷ []) (pos 4 ∷ []) 12 12 12 12 48)) (18 ∷ 0 ∷ [])
    ∷ numbers (number_and_place (culverts_check (closed_grid 3 4 15) cut (7 ∷ 12 ∷ []) (pos 4 ∷ pos 4 ∷ []) 12 12 12 12 48)) (15 ∷ 1 ∷ [])
    ∷ numbers (number_and_place (culverts_check (closed_grid 3 4 15) cut (7 ∷ []) (pos 6 ∷ []) 12 12 12 12 48)) (16 ∷ 0 ∷ [])
    ∷ numbers (number_and_place (fill_check (closed_grid 3 5 16) cut 0 0)) (17 ∷ 0 ∷ [])
    ∷ numbers (number_and_place (fill_check (closed_grid 3 0 16) cut 0 0)) (6 ∷ 0 ∷ [])
    -- oblong cells of 3 by 4, with corners at 5: drops of 3, 4 and 5 tie, and the table decides; one more, and each leads
    ∷ numbers (code_amid 3 4 3 4 5 ∷ code_amid 3 4 3 0 5 ∷ code_amid 3 4 0 4 5 ∷ code_amid 3 4 3 4 0 ∷ []) (1 ∷ 1 ∷ 1 ∷ 2 ∷ [])
    ∷ numbers (code_amid 3 4 4 4 5 ∷ code_amid 3 4 3 5 5 ∷ code_amid 3 4 3 4 6 ∷ code_amid 3 4 2 3 4 ∷ []) (2 ∷ 128 ∷ 1 ∷ 1 ∷ [])
    -- width and height the other way round, and square cells of any width: east 3, north 4, north-east 5 go to the north
    ∷ numbers (code_amid 4 3 3 4 5 ∷ code_amid 1 1 3 4 5 ∷ code_amid 7 7 3 4 5 ∷ code_amid 1000 1000 3 4 5 ∷ []) (128 ∷ 128 ∷ 128 ∷ 128 ∷ [])
    -- the extremes: 1,000 by 1 and 1 by 1,000, and drops of 32,767
    ∷ numbers (code_amid 1000 1 999 1 0 ∷ code_amid 1000 1 1000 1 0 ∷ code_amid 1000 1 1001 1 0 ∷ []) (128 ∷ 2 ∷ 2 ∷ [])
    ∷ numbers (code_amid 1 1000 1 999 0 ∷ code_amid 1 1000 1 1000 0 ∷ code_amid 1 1000 1 1001 0 ∷ []) (2 ∷ 2 ∷ 128 ∷ [])
    ∷ numbers (code_amid 1000 1 32767 32 0 ∷ code_amid 1000 1 32767 33 0 ∷ code_amid 1 1000 0 32766 32767 ∷ []) (2 ∷ 128 ∷ 1 ∷ [])
    -- 0 and 1,001 are no width and no height: 20, after 17 and before 7 and 8; fill and ponds have no shape to ask for
    ∷ numbers (shape_in 0 1 1000 12) (0 ∷ 0 ∷ [])
    ∷ numbers (shape_in 0 1000 1 11) (8 ∷ 0 ∷ [])
    ∷ numbers (shape_in 0 0 1 11) (20 ∷ 0 ∷ [])
    ∷ numbers (shape_in 0 1001 1 11) (20 ∷ 0 ∷ [])
    ∷ numbers (shape_in 15 1 0 12) (20 ∷ 0 ∷ [])
    ∷ numbers (shape_in 0 1 1001 12) (20 ∷ 0 ∷ [])
    ∷ numbers (shape_in 16 0 0 12) (17 ∷ 0 ∷ [])
    ∷ numbers (number_and_place (directions_check (shaped_grid 3 5 0 1 0) cut 12 48)) (20 ∷ 0 ∷ [])
    ∷ numbers (number_and_place (culverts_check (shaped_grid 3 4 0 0 1) cut (12 ∷ []) [] 12 12 12 12 0)) (20 ∷ 0 ∷ [])
    ∷ numbers (number_and_place (fill_check (shaped_grid 3 4 0 0 1001) cut 12 48)) (0 ∷ 0 ∷ [])
    -- a text: what is read from it, what is written, closed sides or not, and the same with its letters raised
    ∷ elevations (text_sheet corners_read) corners
    ∷ numbers (elevation_text (grid_of 2 2) corners) corners_written
    ∷ numbers (elevation_text (closed_grid 2 2 15) corners) corners_written
    ∷ numbers (map raised corners_read) corners_written
    -- the writer: a buffer one byte short gets 8, a sheet of the wrong length 7 before it; 4 comes before 5 and 6, however large
    ∷ numbers (write_in 2 2 4 27) (0 ∷ 0 ∷ [])
    ∷ numbers (write_in 2 2 4 26) (8 ∷ 0 ∷ [])
    ∷ numbers (write_in 2 2 5 26) (7 ∷ 0 ∷ [])
    ∷ numbers (write_in 5000 1 5000 11529) (4 ∷ 0 ∷ [])
    ∷ numbers (write_in 65536 65536 0 0) (4 ∷ 0 ∷ [])
    ∷ numbers (write_in 0 9 0 0) (5 ∷ 0 ∷ [])
    ∷ numbers (write_in 2304 0 0 0) (6 ∷ 0 ∷ [])
    ∷ numbers (write_in 48 48 2304 9273) (0 ∷ 0 ∷ [])
    ∷ numbers (write_in 2304 1 2304 11529) (0 ∷ 0 ∷ [])
    ∷ numbers (write_in 2305 1 2305 11534) (4 ∷ 0 ∷ [])
    -- two lists: the longest ending that both share, of two walks, of walks that end apart, and where one is the other's ending
    ∷ numbers (shared_ending (6 ∷ 7 ∷ 8 ∷ 9 ∷ []) (12 ∷ 8 ∷ 9 ∷ [])) (8 ∷ 9 ∷ [])
    ∷ numbers (shared_ending (6 ∷ 7 ∷ 8 ∷ []) (6 ∷ 7 ∷ 8 ∷ 9 ∷ [])) []
    ∷ numbers (shared_ending (8 ∷ 9 ∷ []) (6 ∷ 7 ∷ 8 ∷ 9 ∷ [])) (8 ∷ 9 ∷ [])
    ∷ numbers (shared_ending (6 ∷ 7 ∷ 8 ∷ 9 ∷ []) (8 ∷ 9 ∷ [])) (8 ∷ 9 ∷ [])
    ∷ numbers (shared_ending [] (8 ∷ 9 ∷ [])) []
    -- whole routes: two that meet, and two that never do
    ∷ numbers (route (grid_of 3 5) opened_codes 6) (6 ∷ 7 ∷ 8 ∷ 9 ∷ [])
    ∷ numbers (shared_ending (route (grid_of 3 5) opened_codes 6) (route (grid_of 3 5) opened_codes 7)) (7 ∷ 8 ∷ 9 ∷ [])
    ∷ numbers (shared_ending (route (grid_of 3 5) opened_codes 6) (route (grid_of 3 5) opened_codes 4)) []
    -- side and corner steps pass, and empty lists; a cell off the sheet, a cell again, one over the edge of a row, and one two columns
    -- away get 19; the first list is judged first, and rows and columns before it
    ∷ numbers (lists_in (6 ∷ 7 ∷ 8 ∷ 9 ∷ []) (12 ∷ 8 ∷ 9 ∷ [])) (0 ∷ 0 ∷ [])
    ∷ numbers (lists_in [] []) (0 ∷ 0 ∷ [])
    ∷ numbers (lists_in (14 ∷ []) []) (0 ∷ 0 ∷ [])
    ∷ numbers (lists_in (15 ∷ []) []) (19 ∷ 0 ∷ [])
    ∷ numbers (lists_in (6 ∷ 6 ∷ []) []) (19 ∷ 1 ∷ [])
    ∷ numbers (lists_in (3 ∷ 4 ∷ 5 ∷ []) []) (19 ∷ 2 ∷ [])
    ∷ numbers (lists_in [] (0 ∷ 2 ∷ [])) (19 ∷ 1 ∷ [])
    ∷ numbers (lists_in (0 ∷ 1 ∷ 3 ∷ []) (15 ∷ [])) (19 ∷ 2 ∷ [])
    ∷ numbers (number_and_place (ending_check (grid_of 0 0) (0 ∷ []) [])) (5 ∷ 0 ∷ [])
    ∷ numbers (number_and_place (ending_check (grid_of 3 4001) (15 ∷ 15 ∷ []) [])) (6 ∷ 0 ∷ [])
    -- crews: a trace of two cells and one of a cell. Crew 31's turn is the 32nd, and crew 0 finishes at its second, the 33rd
    ∷ numbers (standing (crews_after (traced 0 0))) (0 ∷ 3 ∷ 0 ∷ 0 ∷ [])
    ∷ numbers (standing (crews_after (traced 30 1))) (1 ∷ 3 ∷ 31 ∷ 1 ∷ [])
    ∷ numbers (standing (crews_after (traced 31 1))) (1 ∷ 3 ∷ 0 ∷ 2 ∷ [])
    ∷ numbers (standing (crews_after (traced 31 2))) (1 ∷ 3 ∷ 1 ∷ 3 ∷ [])
    ∷ numbers (standing (crews_after (traced 31 40))) (1 ∷ 3 ∷ 7 ∷ 3 ∷ [])
    ∷ numbers (collected_in (crews_after (traced 31 1)) 0) (0 ∷ 0 ∷ 1 ∷ 0 ∷ [])
    ∷ numbers (collected_in (crews_after (traced 31 1)) 31) (0 ∷ 0 ∷ 2 ∷ 3 ∷ [])
    ∷ numbers (collected_in (crews_after (traced 31 2)) 0) (0 ∷ 0 ∷ 2 ∷ 1 ∷ [])
    ∷ numbers (collected_in (crews_after (traced 31 2)) 1) (0 ∷ 0 ∷ 0 ∷ 0 ∷ [])
    ∷ numbers (collected_in (crews_after (traced 31 2)) 32) (21 ∷ 0 ∷ 0 ∷ 0 ∷ [])
    ∷ numbers (collected_in (crews_after (hand_in 16 0 0 ∷ run 16 33 ∷ collect 0 ∷ [])) 0) (0 ∷ 0 ∷ 0 ∷ 0 ∷ [])
    ∷ numbers (collected_in (crews_after (hand_in 16 0 0 ∷ run 16 32 ∷ collect 0 ∷ [])) 0) (0 ∷ 0 ∷ 1 ∷ 0 ∷ [])
    -- the total stays at the largest number
    ∷ numbers (total_of (after_all (grid_of 1 4) streams (set zeros 65 largest) (traced 32 32)) ∷ []) (largest ∷ [])
    -- 9, 11 and 12 before 21 to 23; 21 before 22, finished or not, before 23; a void and what is off the sheet get 23
    ∷ numbers (hand_in_answer 16 1 3 zeros) (0 ∷ 0 ∷ [])
    ∷ numbers (hand_in_answer 15 32 2 zeros) (9 ∷ 0 ∷ [])
    ∷ numbers (hand_in_answer 16 32 2 zeros) (21 ∷ 0 ∷ [])
    ∷ numbers (hand_in_answer 16 32 3 (set zeros 32 1)) (21 ∷ 0 ∷ [])
    ∷ numbers (hand_in_answer 16 0 2 (crews_after (traced 1 0))) (22 ∷ 0 ∷ [])
    ∷ numbers (hand_in_answer 16 31 3 (crews_after (traced 32 0))) (22 ∷ 0 ∷ [])
    ∷ numbers (hand_in_answer 16 1 2 zeros) (23 ∷ 0 ∷ [])
    ∷ numbers (hand_in_answer 16 1 4 zeros) (23 ∷ 0 ∷ [])
    ∷ numbers (number_and_place (hand_in_check (grid_of 1 2) (2 ∷ 3 ∷ []) 8 32 5 zeros)) (11 ∷ 1 ∷ [])
    ∷ numbers (number_and_place (hand_in_check (grid_of 1 2) (2 ∷ 32 ∷ []) 8 32 5 zeros)) (12 ∷ 0 ∷ [])
    ∷ numbers (number_and_place (run_check (grid_of 1 2) (2 ∷ 32 ∷ []) 8 (set (set zeros 9 1) 41 5))) (12 ∷ 0 ∷ [])
    -- a run's 23: the lowest crew whose unfinished trace stands on a void or off the sheet; a finished one may stand there
    ∷ numbers (run_in 16 (crews_after (traced 31 1))) (0 ∷ 0 ∷ [])
    ∷ numbers (run_in 16 (set (set (set (set zeros 9 1) 41 2) 7 2) 39 2)) (23 ∷ 9 ∷ [])
    ∷ numbers (run_in 16 (set (set (set (set zeros 9 1) 41 2) 7 1) 39 4)) (23 ∷ 7 ∷ [])
    ∷ numbers (run_in 16 (set (set zeros 9 2) 41 2)) (0 ∷ 0 ∷ [])
    ∷ numbers (run_in 15 (set (set zeros 9 1) 41 2)) (9 ∷ 0 ∷ [])
    -- gauges: labels that differ pass, in any one byte too, and 0 on many cells; a label on two cells gets 24
    ∷ numbers (gauged (0 ∷ 0 ∷ 0 ∷ 0 ∷ 0 ∷ 0 ∷ [])) (0 ∷ 0 ∷ [])
    ∷ numbers (gauged (0 ∷ 9 ∷ 0 ∷ 0 ∷ 0 ∷ 7 ∷ [])) (0 ∷ 0 ∷ [])
    ∷ numbers (gauged (1 ∷ 257 ∷ 65537 ∷ 0 ∷ 16777217 ∷ 2 ∷ [])) (0 ∷ 0 ∷ [])
    ∷ numbers (gauged (7 ∷ 0 ∷ 0 ∷ 0 ∷ 0 ∷ 7 ∷ [])) (24 ∷ 5 ∷ [])
    ∷ numbers (gauged (4294967295 ∷ 4294967295 ∷ 1 ∷ 0 ∷ 0 ∷ 2 ∷ [])) (24 ∷ 1 ∷ [])
    -- the place is the second cell of the lowest repeated label, not of the one met first nor of the lowest label, and not the last
    ∷ numbers (gauged (9 ∷ 9 ∷ 4 ∷ 0 ∷ 4 ∷ 1 ∷ [])) (24 ∷ 4 ∷ [])
    ∷ numbers (gauged (4 ∷ 9 ∷ 9 ∷ 0 ∷ 4 ∷ 9 ∷ [])) (24 ∷ 4 ∷ [])
    ∷ numbers (gauged (9 ∷ 0 ∷ 9 ∷ 0 ∷ 9 ∷ 9 ∷ [])) (24 ∷ 2 ∷ [])
    -- after 9, 11, 12 and 13
    ∷ numbers (gauged (7 ∷ 7 ∷ 0 ∷ 7 ∷ 0 ∷ 0 ∷ [])) (13 ∷ 3 ∷ [])
    ∷ numbers (number_and_place (watersheds_check (grid_of 1 2) (2 ∷ 2 ∷ []) (7 ∷ 7 ∷ []) 2 7)) (9 ∷ 0 ∷ [])
    ∷ numbers (number_and_place (watersheds_check (grid_of 1 2) (2 ∷ 3 ∷ []) (7 ∷ 7 ∷ []) 2 8)) (11 ∷ 1 ∷ [])
    ∷ numbers (number_and_place (watersheds_check (grid_of 1 2) (2 ∷ 32 ∷ []) (7 ∷ 7 ∷ []) 2 8)) (12 ∷ 0 ∷ [])
    ∷ numbers (number_and_place (watersheds_check (grid_of 1 2) (2 ∷ 2 ∷ []) (7 ∷ 7 ∷ []) 2 8)) (24 ∷ 1 ∷ [])
    -- Table 5's own starts, which pass, and the watersheds that they give
    ∷ numbers (starts eastward eastward_codes (counts eastward eastward_codes) 0) (0 ∷ 0 ∷ 0 ∷ 0 ∷ 1 ∷ 2 ∷ 3 ∷ 0 ∷ 0 ∷ 0 ∷ 0 ∷ 0 ∷ [])
    ∷ numbers (first_repeat eastward (starts eastward eastward_codes (counts eastward eastward_codes) 0) ∷ []) (12 ∷ [])
    ∷ numbers (watersheds eastward eastward_codes (0 ∷ 0 ∷ 0 ∷ 0 ∷ 1 ∷ 2 ∷ 3 ∷ 0 ∷ 0 ∷ 0 ∷ 0 ∷ 0 ∷ []))
    (1 ∷ 2 ∷ 0 ∷ 0 ∷ 1 ∷ 2 ∷ 3 ∷ 0 ∷ 1 ∷ 2 ∷ 0 ∷ 0 ∷ [])
    -- "Rows 4,000 passes, 4,001 gets 5. Codes 2 and 32 side by side, facing each other, get 12"
    ∷ numbers ((ask_size (grid_of 4000 1) accepted).number ∷ []) (0 ∷ [])
    ∷ numbers ((ask_size (grid_of 4001 1) accepted).number ∷ []) (5 ∷ [])
    ∷ numbers ((codes_check (grid_of 1 2) (2 ∷ 32 ∷ []) 2 8).number ∷ []) (12 ∷ [])
    ∷ []
