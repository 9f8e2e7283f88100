-- The call from C: an answer as one number.
use Rattle.std.specs.Prelude.{ℤ, pos, neg_ℤ}
use Rattle.planner.specs.Planning.{Reply, at, never, unknown, refuses}

-- a minute, 0 to 20,159; 20,160 and 20,161, which are none, for "none" and "unknown"; "the refusal's number made negative" (document 01)
unfoldable pub number_in_c : Reply → ℤ
number_in_c (at m) = pos m
number_in_c never = pos 20160
number_in_c unknown = pos 20161
number_in_c (refuses n) = neg_ℤ (pos n)
