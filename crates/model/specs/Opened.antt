-- Document 02, S-6, "Landing while a sheet is being printed": a sheet is opened, then fetched line by line.
use Rattle.std.specs.Prelude.{ℕ, zero, suc, ◌+◌, Bool, false, not, ◌&&◌, ◌||◌, List, [], ◌∷◌, length, take, eqb, ltb, if◌then◌else◌}
use Rattle.std.proofs.Math.Option.{Option, none, some}
use Rattle.model.specs.Basics.{up_to}
use Rattle.model.specs.Graph.{Edge}
use Rattle.model.specs.Register.{Register}
use Rattle.model.specs.Queries.{Reply, OpenSheet, fetched, finished, refuses, rows_of}

-- "A sheet is opened": the register's counts, the place of the first line, and the count of removals
unfoldable pub opening_of : ℕ → Register → OpenSheet
opening_of removals r = record { vertices = r.vertices; edges = length r.edges; place = 0; removals = removals }

-- "moves on by one"
unfoldable pub moved_on : OpenSheet → OpenSheet
moved_on s = record { vertices = s.vertices; edges = s.edges; place = s.place + 1; removals = s.removals }

-- the first edges, as many as there were at the opening
unfoldable pub opened_edges : Register → OpenSheet → List Edge
opened_edges r s = take s.edges r.edges

-- "name a fitting beyond its own": one of some edges names a vertex that is none of the first n
unfoldable pub any_beyond : ℕ → List Edge → Bool
any_beyond n [] = false
any_beyond n (e ∷ es) = not (ltb e.first n && ltb e.second n) || any_beyond n es

-- "33 an opening with more fittings or pipes than the register has, or whose pipes name a fitting beyond its own"
unfoldable pub is_beyond : Register → OpenSheet → Bool
is_beyond r s = ltb r.vertices s.vertices || ltb (length r.edges) s.edges || any_beyond s.vertices (opened_edges r s)

-- "Its lines are those of the register as it stood at the opening, which its opening counts name, however much has been landed since; after
-- a grow they are those that the counts name in the new one": the rows of the chains and rings of these edges alone
unfoldable pub opened_lines : Register → OpenSheet → List (List ℕ)
opened_lines r s = let es = opened_edges r s in rows_of es (up_to (length es))

-- the line at a place, if there is one
unfoldable pub line_at : ℕ → List (List ℕ) → Option (List ℕ)
line_at n [] = none
line_at zero (ns ∷ rows) = some ns
line_at (suc n) (ns ∷ rows) = line_at n rows

-- "A fetch gives the line at its place and moves on by one, or, exactly past the last line, says the sheet is done and stays."
unfoldable pub fetch_line : OpenSheet → Option (List ℕ) → Reply
fetch_line s (some ns) = fetched ns (moved_on s)
fetch_line s none = finished s

-- S-11: an open sheet "is ended when it differs", that is, when its count is not that of the removals
unfoldable pub is_ended : ℕ → OpenSheet → Bool
is_ended removals s = not (eqb s.removals removals)

-- "39 sheet so ended, just before 33"
unfoldable pub fetch : ℕ → Register → OpenSheet → Reply
fetch removals r s =
    if is_ended removals s then refuses 39
    else if is_beyond r s then refuses 33
    else fetch_line s (line_at s.place (opened_lines r s))
