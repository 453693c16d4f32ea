-- Where names wait (request 2.2), as whole bytes: calls on a sheet behind whose lines a name waits, and jobs that end in names. Each row is a
-- call, the number that it answers and the sheet.
-- Assumes nothing.
use Rattle.std.proofs.Common.{◌≡◌, true, false, List, [], ◌∷◌, map, refl}
use Rattle.characters.specs.Columns.{columns_of, width_of, cols, str_width, on_list, is_control}
use Rattle.characters.specs.Whitespace.{is_whitespace, always_takes_space, is_wordbreak_point}
use Rattle.characters.specs.Utf8.{first_byte, step_byte, chars_from, chars, utf8, text_bytes}
use Rattle.fields.specs.Field.{field, raws_f, raws, read_all, all}
use Rattle.fields.specs.Text.{allowed_in, readable_text}
use Rattle.fields.specs.Job.{read_text, read_field, read_setup, read_head, head_of, any_wrong, all_readable, units}
use Rattle.fields.specs.Refusals.{setup_of, fields_of, block_refusal}
use Rattle.fields.specs.Sheet.{read_piece, pieces_bytes, read_prefix, read_prefixes}
use Rattle.fields.specs.Spans.{read_line, read_hanging, before_hanging, from_hanging, read_name, before_names, from_names, read_headed, read_sheet, readable_lines, readable_names, lines_bytes, overhang_bytes, names_bytes, sheet_bytes, read_plain_cell, read_plain_cells}
use Rattle.fields.specs.Answer.{in_store, give}
use Rattle.fields.specs.Widths.{text_width, width}
use Rattle.block.specs.TaggedLine.{no_content, is_empty, onto_last, join as block-join, push_str as block-push-str, push as block-push, push_char, consume as block-consume, drained, map_tag, sum_widths, line_width, trim_start, without_front, remove_leading_whitespace, trim_end, backwards, without_end, remove_trailing_spaces}
use Rattle.block.specs.WrappedBlock.{new, force_flush_line, flush_line, walk, split_at, split_piece, put_rest, hard_wrap_elements, hard_wrap, flush_word_hard_wrap, got_space, at_wrap, match_spacetag, write_one, write_remaining, not_enough_space, flush_word, newline, tab_loop, tab, keep, blank, word_char, add_char, add_chars, add_text, add_element, flush, into_lines, take_trailing_fragments, trailing_taken, flush_wrapping}
use Rattle.block.specs.Answer.{add_field, add_fields, flushed_block, sheet_line, names_of, verdict_of, verdict, render_answer}
use Rattle.borders.specs.BorderSegHoriz.{seg_to_char}
use Rattle.borders.specs.BorderHoriz.{new_type, to_string, to_string_from, holed_to_string, into_tagged_from, border_into_tagged_line}
use Rattle.fields.specs.TaggedLine.{join, push_str, push, consume, push_ws, pad_to, insert_front}
use Rattle.rows.specs.SubRenderer.{in_names, padded, add_line, extend_lines, with_prefix, prefixed, append_subrender, append_each, append_vert_row}
use Rattle.rows.specs.Answer.{finished, subrender_verdict, subrender_answer, vert_row_verdict, vert_row_answer}
use Rattle.rows.proofs.Marked.{Row, row, job, subrender, vert_row, plain, answered, answer}

-- Annotations 0, Normal, pad off and borders on unless given.
unfoldable pub waiting : List Row
waiting =
    -- names before the prefix, and all equal neighbours of the line join: the name, then ">ab"
    row (subrender (plain 5) (0x48 ∷ 0x00 ∷ 0x02 ∷ 0x00 ∷ 0x00 ∷ 0x46 ∷ 0x00 ∷ 0x01 ∷ 0x6E ∷ [])
    (0x48 ∷ 0x00 ∷ 0x02 ∷ 0x00 ∷ 0x01 ∷ 0x4C ∷ 0x00 ∷ 0x0A ∷ 0x53 ∷ 0x00 ∷ 0x02 ∷ 0x00 ∷ 0x61 ∷ 0x53 ∷ 0x00 ∷ 0x02 ∷ 0x00 ∷ 0x62 ∷ [])
    (0x50 ∷ 0x00 ∷ 0x01 ∷ 0x3E ∷ []) false) 0
    (0x48 ∷ 0x00 ∷ 0x02 ∷ 0x00 ∷ 0x01
    ∷ 0x4C ∷ 0x00 ∷ 0x0B ∷ 0x46 ∷ 0x00 ∷ 0x01 ∷ 0x6E ∷ 0x53 ∷ 0x00 ∷ 0x04 ∷ 0x00 ∷ 0x3E ∷ 0x61 ∷ 0x62 ∷ [])
    -- where no name waits the pieces stay apart
    ∷ row (subrender (plain 5) (0x48 ∷ 0x00 ∷ 0x02 ∷ 0x00 ∷ 0x00 ∷ [])
    (0x48 ∷ 0x00 ∷ 0x02 ∷ 0x00 ∷ 0x01 ∷ 0x4C ∷ 0x00 ∷ 0x0A ∷ 0x53 ∷ 0x00 ∷ 0x02 ∷ 0x00 ∷ 0x61 ∷ 0x53 ∷ 0x00 ∷ 0x02 ∷ 0x00 ∷ 0x62 ∷ [])
    (0x50 ∷ 0x00 ∷ 0x00 ∷ []) false) 0
    (0x48 ∷ 0x00 ∷ 0x02 ∷ 0x00 ∷ 0x01
    ∷ 0x4C ∷ 0x00 ∷ 0x0A ∷ 0x53 ∷ 0x00 ∷ 0x02 ∷ 0x00 ∷ 0x61 ∷ 0x53 ∷ 0x00 ∷ 0x02 ∷ 0x00 ∷ 0x62 ∷ [])
    -- a guest's border, now text, takes them
    ∷ row (subrender (plain 5) (0x48 ∷ 0x00 ∷ 0x02 ∷ 0x00 ∷ 0x00 ∷ 0x46 ∷ 0x00 ∷ 0x01 ∷ 0x6E ∷ [])
    (0x48 ∷ 0x00 ∷ 0x02 ∷ 0x00 ∷ 0x01 ∷ 0x42 ∷ 0x00 ∷ 0x02 ∷ 0x00 ∷ 0x00 ∷ [])
    (0x50 ∷ 0x00 ∷ 0x00 ∷ []) false) 0
    (0x48 ∷ 0x00 ∷ 0x02 ∷ 0x00 ∷ 0x01
    ∷ 0x4C ∷ 0x00 ∷ 0x0B ∷ 0x46 ∷ 0x00 ∷ 0x01 ∷ 0x6E ∷ 0x53 ∷ 0x00 ∷ 0x04 ∷ 0x00 ∷ 0xE2 ∷ 0x94 ∷ 0x80 ∷ [])
    -- a border that the call adds does not, padded: the name waits on
    ∷ row (vert_row (record { width = 1; pad = true; borders = true; annotation = 0 }) (0x48 ∷ 0x00 ∷ 0x02 ∷ 0x00 ∷ 0x00 ∷ 0x46 ∷ 0x00 ∷ 0x01 ∷ 0x6E ∷ []) []) 0
    (0x48 ∷ 0x00 ∷ 0x02 ∷ 0x00 ∷ 0x01
    ∷ 0x4C ∷ 0x00 ∷ 0x07 ∷ 0x53 ∷ 0x00 ∷ 0x04 ∷ 0x00 ∷ 0xE2 ∷ 0x94 ∷ 0x80
    ∷ 0x46 ∷ 0x00 ∷ 0x01 ∷ 0x6E ∷ [])
    -- or not padded
    ∷ row (vert_row (plain 1) (0x48 ∷ 0x00 ∷ 0x02 ∷ 0x00 ∷ 0x00 ∷ 0x46 ∷ 0x00 ∷ 0x01 ∷ 0x6E ∷ []) []) 0
    (0x48 ∷ 0x00 ∷ 0x02 ∷ 0x00 ∷ 0x01
    ∷ 0x42 ∷ 0x00 ∷ 0x02 ∷ 0x00 ∷ 0x00
    ∷ 0x46 ∷ 0x00 ∷ 0x01 ∷ 0x6E ∷ [])
    -- a name in a word with text: on the line
    ∷ row (job (0x57 ∷ 0x00 ∷ 0x03 ∷ 0x03 ∷ 0x00 ∷ 0x00
    ∷ 0x54 ∷ 0x00 ∷ 0x05 ∷ 0x00 ∷ 0x00 ∷ 0x00 ∷ 0x61 ∷ 0x62
    ∷ 0x46 ∷ 0x00 ∷ 0x01 ∷ 0x6E ∷ [])) 0
    (0x48 ∷ 0x00 ∷ 0x02 ∷ 0x00 ∷ 0x01
    ∷ 0x4C ∷ 0x00 ∷ 0x0A ∷ 0x53 ∷ 0x00 ∷ 0x03 ∷ 0x00 ∷ 0x61 ∷ 0x62 ∷ 0x46 ∷ 0x00 ∷ 0x01 ∷ 0x6E ∷ [])
    -- after the blank that closed the word: it waits
    ∷ row (job (0x57 ∷ 0x00 ∷ 0x03 ∷ 0x03 ∷ 0x00 ∷ 0x00
    ∷ 0x54 ∷ 0x00 ∷ 0x06 ∷ 0x00 ∷ 0x00 ∷ 0x00 ∷ 0x61 ∷ 0x62 ∷ 0x20
    ∷ 0x46 ∷ 0x00 ∷ 0x01 ∷ 0x6E ∷ [])) 0
    (0x48 ∷ 0x00 ∷ 0x02 ∷ 0x00 ∷ 0x01
    ∷ 0x4C ∷ 0x00 ∷ 0x06 ∷ 0x53 ∷ 0x00 ∷ 0x03 ∷ 0x00 ∷ 0x61 ∷ 0x62
    ∷ 0x46 ∷ 0x00 ∷ 0x01 ∷ 0x6E ∷ [])
    -- Pre: the blank joined the word: on the line
    ∷ row (job (0x57 ∷ 0x00 ∷ 0x03 ∷ 0x03 ∷ 0x00 ∷ 0x00
    ∷ 0x54 ∷ 0x00 ∷ 0x06 ∷ 0x01 ∷ 0x00 ∷ 0x00 ∷ 0x61 ∷ 0x62 ∷ 0x20
    ∷ 0x46 ∷ 0x00 ∷ 0x01 ∷ 0x6E ∷ [])) 0
    (0x48 ∷ 0x00 ∷ 0x02 ∷ 0x00 ∷ 0x01
    ∷ 0x4C ∷ 0x00 ∷ 0x0B ∷ 0x53 ∷ 0x00 ∷ 0x04 ∷ 0x00 ∷ 0x61 ∷ 0x62 ∷ 0x20 ∷ 0x46 ∷ 0x00 ∷ 0x01 ∷ 0x6E ∷ [])
    -- an LF does not let a name go
    ∷ row (job (0x57 ∷ 0x00 ∷ 0x03 ∷ 0x03 ∷ 0x00 ∷ 0x00
    ∷ 0x46 ∷ 0x00 ∷ 0x01 ∷ 0x6E
    ∷ 0x54 ∷ 0x00 ∷ 0x04 ∷ 0x01 ∷ 0x00 ∷ 0x00 ∷ 0x0A ∷ [])) 0
    (0x48 ∷ 0x00 ∷ 0x02 ∷ 0x00 ∷ 0x01
    ∷ 0x4C ∷ 0x00 ∷ 0x00
    ∷ 0x46 ∷ 0x00 ∷ 0x01 ∷ 0x6E ∷ [])
    -- nor does a tab: names in the order of the fields, none twice
    ∷ row (job (0x57 ∷ 0x00 ∷ 0x03 ∷ 0x03 ∷ 0x00 ∷ 0x00
    ∷ 0x46 ∷ 0x00 ∷ 0x01 ∷ 0x6E
    ∷ 0x54 ∷ 0x00 ∷ 0x04 ∷ 0x01 ∷ 0x00 ∷ 0x00 ∷ 0x09
    ∷ 0x46 ∷ 0x00 ∷ 0x01 ∷ 0x6D ∷ [])) 0
    (0x48 ∷ 0x00 ∷ 0x02 ∷ 0x00 ∷ 0x01
    ∷ 0x4C ∷ 0x00 ∷ 0x07 ∷ 0x53 ∷ 0x00 ∷ 0x04 ∷ 0x00 ∷ 0x20 ∷ 0x20 ∷ 0x20
    ∷ 0x46 ∷ 0x00 ∷ 0x01 ∷ 0x6E
    ∷ 0x46 ∷ 0x00 ∷ 0x01 ∷ 0x6D ∷ [])
    -- hard wrap: lost
    ∷ row (job (0x57 ∷ 0x00 ∷ 0x03 ∷ 0x01 ∷ 0x00 ∷ 0x00
    ∷ 0x54 ∷ 0x00 ∷ 0x05 ∷ 0x00 ∷ 0x00 ∷ 0x00 ∷ 0x61 ∷ 0x62
    ∷ 0x46 ∷ 0x00 ∷ 0x01 ∷ 0x6E ∷ [])) 0
    (0x48 ∷ 0x00 ∷ 0x02 ∷ 0x00 ∷ 0x02
    ∷ 0x4C ∷ 0x00 ∷ 0x05 ∷ 0x53 ∷ 0x00 ∷ 0x02 ∷ 0x00 ∷ 0x61
    ∷ 0x4C ∷ 0x00 ∷ 0x05 ∷ 0x53 ∷ 0x00 ∷ 0x02 ∷ 0x00 ∷ 0x62 ∷ [])
    -- PreWrap, a word trimmed to nothing: lost
    ∷ row (job (0x57 ∷ 0x00 ∷ 0x03 ∷ 0x01 ∷ 0x00 ∷ 0x00
    ∷ 0x54 ∷ 0x00 ∷ 0x06 ∷ 0x02 ∷ 0x00 ∷ 0x00 ∷ 0x20 ∷ 0xC2 ∷ 0xA0
    ∷ 0x46 ∷ 0x00 ∷ 0x01 ∷ 0x6E ∷ [])) 0
    (0x48 ∷ 0x00 ∷ 0x02 ∷ 0x00 ∷ 0x00 ∷ [])
    -- a word without columns stays open over a blank: on the line
    ∷ row (job (0x57 ∷ 0x00 ∷ 0x03 ∷ 0x03 ∷ 0x00 ∷ 0x00
    ∷ 0x54 ∷ 0x00 ∷ 0x06 ∷ 0x00 ∷ 0x00 ∷ 0x00 ∷ 0xCC ∷ 0x81 ∷ 0x20
    ∷ 0x46 ∷ 0x00 ∷ 0x01 ∷ 0x6E ∷ [])) 0
    (0x48 ∷ 0x00 ∷ 0x02 ∷ 0x00 ∷ 0x01
    ∷ 0x4C ∷ 0x00 ∷ 0x0A ∷ 0x53 ∷ 0x00 ∷ 0x03 ∷ 0x00 ∷ 0xCC ∷ 0x81 ∷ 0x46 ∷ 0x00 ∷ 0x01 ∷ 0x6E ∷ [])
    ∷ []

-- NAMES THAT WAIT: each row's call gets the row's number, and the row's bytes in the store.
pub waiting_right : map (λ (r : Row). answer r.call) waiting ≡ map (λ (r : Row). answered r.number r.sheet) waiting
unfolding waiting columns_of width_of cols on_list is_control is_whitespace always_takes_space is_wordbreak_point first_byte step_byte chars_from chars utf8 text_bytes field raws_f raws read_all all allowed_in readable_text read_text read_field read_setup read_head head_of any_wrong all_readable units setup_of fields_of block_refusal read_piece read_line read_hanging before_hanging from_hanging read_name before_names from_names read_headed read_sheet readable_lines readable_names pieces_bytes lines_bytes overhang_bytes names_bytes sheet_bytes in_store give str_width no_content is_empty onto_last block-join block-push-str block-push push_char block-consume drained map_tag sum_widths line_width trim_start without_front remove_leading_whitespace trim_end backwards without_end remove_trailing_spaces new force_flush_line flush_line walk split_at split_piece put_rest hard_wrap_elements hard_wrap flush_word_hard_wrap got_space at_wrap match_spacetag write_one write_remaining not_enough_space flush_word newline tab_loop tab keep blank word_char add_char add_chars add_text add_element flush into_lines take_trailing_fragments trailing_taken flush_wrapping add_field add_fields flushed_block sheet_line names_of verdict_of verdict render_answer new_type text_width width join push_str push consume push_ws pad_to in_names padded add_line extend_lines finished seg_to_char to_string to_string_from holed_to_string into_tagged_from border_into_tagged_line insert_front read_prefix read_prefixes read_plain_cell read_plain_cells with_prefix prefixed append_subrender append_each append_vert_row subrender_verdict subrender_answer vert_row_verdict vert_row_answer
waiting_right = refl
