-- The theorem: every case of the table holds. The checker computes each side.
use Rattle.std.specs.Prelude.{◌≡◌, refl, true}
use Rattle.grid.specs.Below.{table, any_below, sum_below, count_below, first_below, join_below, has, last_of}
use Rattle.grid.specs.Sheet.{void, top, eq_z, lower, higher, is_data, position_of, moved, cell_at, neighbour}
use Rattle.grid.specs.Outlet.{is_open, is_void, on_open_side, outside, is_outside}
use Rattle.grid.specs.Outlet.{is_gap, leaves_at, is_outlet, outlet_code, drained, first_stranded}
use Rattle.grid.specs.Fill.{start_at, lowest_to, pass_at, passes, filled}
use Rattle.grid.specs.Directions.{drop_to, squared_distance, beats, beaten, is_steepest, steepest_sum, member, score, best_of, choice, is_equal}
use Rattle.grid.specs.Directions.{has_descent, is_level_zero, level_pass_at, level_passes, levels, flat_sum, direction_at, directions}
use Rattle.grid.specs.Directions.{first_unlevelled}
use Rattle.grid.specs.Routes.{follow, ends_by, has_code, receiver, count_at, label_at, counts, labels, first_bad_code, first_endless}
use Rattle.grid.specs.Routes.{first_start, watersheds, first_bad_start, is_repeated, lowest_repeated, second_cell, first_repeat}
use Rattle.grid.specs.Starts.{delta, is_start, starts}
use Rattle.grid.specs.Joined.{join_pass, join_passes, joined}
use Rattle.grid.specs.Ponds.{is_wet, pond_of, lowest_cell, is_lowest, ponds, pond_count, natural, depth, pond_level, pond_cells, pond_volume}
use Rattle.grid.specs.Culverts.{opened_to, opened, is_level_for, is_bad_entry, first_bad_entry}
use Rattle.grid.specs.Checks.{in_range, ask_size, all_have, ask_lengths, ask_sides, in_shape, ask_shape, ask_sheets, ask_outlets, ask_flow}
use Rattle.grid.specs.Checks.{ask_work, ask_reach, ask_codes}
use Rattle.grid.specs.Checks.{ask_description, ask_entries, fill_check, directions_check, codes_check, drain_check, ponds_check, culverts_check}
use Rattle.grid.specs.Checks.{watersheds_check}
use Rattle.grid.specs.Endings.{are_neighbours, is_stray, first_stray, ask_list, ending_check, shared_length, shared_ending}
use Rattle.grid.specs.Crews.{is_on_way, is_finished, has_trace, counted, stepped, turn_of, turn, turns, ask_trace, hand_in_check, handed_in}
use Rattle.grid.specs.Crews.{first_lost, ask_lost, run_check, collected, freed}
use Rattle.grid.specs.Operations.{after, after_all}
use Rattle.grid.specs.Frames.{hex_value, is_text_byte, number4, text_grid, ends_line, is_shaped, first_bad_byte, read_check, from_twos, to_twos}
use Rattle.grid.specs.Frames.{text_sheet, upper_digit, hex_text, sheet_text, header_text, elevation_text, result_text, refusal_text, drain_text}
use Rattle.grid.specs.Frames.{program_text}
use Rattle.grid.specs.Writing.{write_check, raised}
use Rattle.known_ground.specs.Cases.{all_hold, known_ground}

pub known_ground_holds : all_hold known_ground ≡ true
unfolding all_hold known_ground table any_below sum_below count_below first_below join_below has last_of void top eq_z lower higher is_data
    position_of moved cell_at neighbour is_open is_void on_open_side outside is_outside is_gap leaves_at is_outlet outlet_code drained first_stranded
    start_at lowest_to pass_at passes filled
    drop_to squared_distance beats beaten is_steepest steepest_sum member score best_of choice is_equal has_descent is_level_zero level_pass_at
    level_passes levels flat_sum direction_at directions first_unlevelled follow ends_by has_code receiver count_at label_at counts labels
    first_bad_code first_endless first_start watersheds first_bad_start is_repeated lowest_repeated second_cell first_repeat delta is_start starts
    join_pass join_passes joined is_wet pond_of lowest_cell is_lowest ponds pond_count natural depth pond_level
    pond_cells pond_volume opened_to opened is_level_for is_bad_entry first_bad_entry in_range ask_size all_have ask_lengths ask_sides in_shape ask_shape
    ask_sheets ask_outlets ask_description ask_flow ask_work ask_reach ask_codes
    fill_check directions_check codes_check drain_check ponds_check ask_entries culverts_check watersheds_check are_neighbours is_stray first_stray
    ask_list ending_check shared_length shared_ending hex_value is_text_byte number4 text_grid ends_line
    is_shaped first_bad_byte read_check from_twos to_twos text_sheet upper_digit hex_text sheet_text header_text elevation_text result_text
    refusal_text drain_text program_text write_check raised is_on_way is_finished has_trace counted stepped turn_of turn turns ask_trace hand_in_check
    handed_in first_lost ask_lost run_check collected freed after after_all
known_ground_holds = refl
