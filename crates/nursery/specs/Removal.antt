-- Document 02, S-11, "Taking pipes out": the register without an edge, and the report.
use Rattle.std.specs.Prelude.{ℕ, suc, true, false, ◌||◌, List, [], ◌∷◌, ◌++◌, length, take, drop, eqb, leb, ltb, if◌then◌else◌}
use Rattle.model.specs.Graph.{Edge}
use Rattle.model.specs.Register.{Register, empty, landed, refused, land_edge}
use Rattle.model.specs.Tables.{land_vertices, grow_from}
use Rattle.model.specs.Calls.{House}
use Rattle.model.specs.Series.{Landing, landing_of}

-- "A pipe may be removed by its number; later pipes move down by one."
unfoldable pub without : ℕ → List Edge → List Edge
without d es = take d es ++ drop (suc d) es

-- a vertex whose label differs, "with old tag and new tag (0 for none)"
pub record Change : Type 0 where
  pub vertex : ℕ
  pub old : ℕ
  pub new : ℕ

-- "exactly the fittings whose tags differ .., by rising fitting, each just one time": those from vertex `at` on
unfoldable pub changes_from : ℕ → List ℕ → List ℕ → List Change
changes_from at [] news = []
changes_from at (old ∷ olds) [] = []
changes_from at (old ∷ olds) (new ∷ news) =
    elim (eqb old new) [
      | true ↦ changes_from (suc at) olds news
      | false ↦ record { vertex = at; old = old; new = new } ∷ changes_from (suc at) olds news
    ]

-- "three 32-bit numbers a fitting"
unfoldable pub change_numbers : List Change → List ℕ
change_numbers [] = []
change_numbers (c ∷ cs) = c.vertex ∷ c.old ∷ c.new ∷ change_numbers cs

-- "a 32-bit count of removals": its largest
abbrev pub max_removals : ℕ
max_removals = 4294967295

-- the register without the edge, and the report; or a refusal
pub data Removed : Type 0 where
  removed : Register → List Change → Removed
  kept_with : ℕ → Removed

-- "38 no such pipe, or the count at its largest, .. then 9 for a short answer slice", of `room` numbers. "The register must then be what landing
-- the remaining pipes in order from empty leaves, with the re-hung total of that landing"; that landing is never refused (`rest_lands`), so the
-- last 38 never holds.
unfoldable pub remove : House → ℕ → ℕ → Removed
remove s d room =
    if leb (length s.register.edges) d || leb max_removals s.removals then kept_with 38
    else elim (grow_from s.register.vertices (without d s.register.edges)) [
      | landed r ↦
          let cs = changes_from 0 s.register.labels r.labels in
          if ltb room (length (change_numbers cs)) then kept_with 9 else removed r cs
      | refused x ↦ kept_with 38
    ]

-- "pipes and re-hangings are counted over that landing": some edges as they land one by one ..
unfoldable pub landings_of : List Edge → Register → List Landing
landings_of [] r = []
landings_of (e ∷ es) r = elim (land_edge r e) [ landed r' ↦ landing_of r e r' ∷ landings_of es r' | refused x ↦ [] ]

-- .. on n vertices, from empty
unfoldable pub landed_anew : ℕ → List Edge → List Landing
landed_anew n es = elim (land_vertices n empty) [ landed r ↦ landings_of es r | refused x ↦ [] ]
