-- Walks along a chain, of at most n steps. A walker stands at vertex v, which it reached by edge d.
use Rattle.std.specs.Prelude.{ℕ, zero, suc, ◌+◌, List, get_or, eqb, if◌then◌else◌}
use Rattle.tables.specs.Steps.{far_in, turn_in}

-- where two walks in lockstep stand when one of them has come to a singular vertex, and the number of steps of each
pub record Met : Type 0 where
  pub first : ℕ
  pub second : ℕ
  pub steps : ℕ

abbrev pub met : ℕ → ℕ → ℕ → Met
met v w n = record { first = v; second = w; steps = n }

-- k steps counted before those of m
unfoldable pub steps_ahead : ℕ → Met → Met
steps_ahead k m = met m.first m.second (k + m.steps)

unfoldable pub lockstep_in : List ℕ → List ℕ → List ℕ → ℕ → ℕ → ℕ → ℕ → ℕ → Met
lockstep_in degrees sides ends zero d v c w = met v w 0
lockstep_in degrees sides ends (suc n) d v c w =
    let d' = turn_in sides d v in
    let c' = turn_in sides c w in
    let on = steps_ahead 1 (lockstep_in degrees sides ends n d' (far_in ends d' v) c' (far_in ends c' w)) in
    if eqb (get_or degrees v 0) 2 then (if eqb (get_or degrees w 0) 2 then on else met v w 0) else met v w 0
