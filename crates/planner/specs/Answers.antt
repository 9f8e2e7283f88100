-- Document 02's number of each refusal and values of each answer of the planner.
use Rattle.std.specs.Prelude.{ℕ, Result, Ok, Err}
use Rattle.planner.specs.Planning.{Reply, at, never, unknown, refuses}
use Rattle.planner.specs.declared.answers.Refusal.{Refusal}
use Rattle.planner.specs.declared.answers.Refusal.TheVariants.{OutOfBounds, Windows}
use Rattle.planner.specs.declared.answers.Plan.{Plan}
use Rattle.planner.specs.declared.answers.Plan.TheVariants as plan

abbrev pub number_of : Refusal → ℕ
-- "a flow out of bounds, a given minute above 10,079 or more than 32 windows"
number_of OutOfBounds = 34
-- "a window whose start is not before its end, whose end is above 10,080 or whose start is before the previous end"
number_of Windows = 35

abbrev pub plan_reply : Plan → Reply
plan_reply (plan.At m) = at m.0
plan_reply plan.Never = never
plan_reply plan.Unknown = unknown

abbrev pub planned_reply : Result Plan Refusal → Reply
planned_reply (Ok p) = plan_reply p
planned_reply (Err x) = refuses (number_of x)
