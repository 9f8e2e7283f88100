-- The verdicts of specs/Verdicts, computed.
use mathlib.Core.Path.{refl}
use Rattle.model.specs.Judging.{ahead, split_lines, compare_lines, compare_texts, judge}
use Rattle.model.specs.Verdicts.{Verdicts, on}
use Rattle.model.proofs.Computing.{computing}
use Rattle.model.proofs.Values.{lists}

pub judged : Verdicts
unfolding computing lists ahead split_lines compare_lines compare_texts judge on
judged =
    record {
      right = refl;
      own_print = refl;
      no_runs = refl;
      head = refl;
      second = refl;
      last = refl;
      swapped = refl;
      blank_before = refl;
      two_blanks = refl;
      leading_zero = refl;
      two_byte_ends = refl;
      without_second = refl;
      without_last = refl;
      head_alone = refl;
      without_head = refl;
      nothing = refl;
      second_twice = refl;
      empty_line = refl;
      lone_byte = refl;
      twice = refl;
      cut_end = refl;
      cut_second = refl;
      no_end_within = refl;
      one_byte = refl;
      ring_right = refl;
      ring_other_end = refl;
      without_ring = refl;
      ring_volume = refl;
      volume_right = refl;
      volume_other = refl;
      unknown_right = refl;
      known_as_unknown = refl;
      unknown_as_0 = refl;
      no_volume = refl;
      no_mark = refl;
      version = refl;
      cut_header = refl;
      last_record = refl;
      own_stop = refl;
      volume_refused = refl;
    }
