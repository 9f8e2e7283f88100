-- What the commit of a quote does to the tables (document 02, S-5), as a function of lists that mirrors the code.
use Rattle.std.specs.Prelude.{ℕ, Bool, not, if◌then◌else◌}
use Rattle.model.specs.Register.{Quote, eq_quote}
use Rattle.model.specs.Tables.{Tables, Counts}
use Rattle.insertion.specs.Insertion.{LandingIn, landing_in, land_in, refused_in}
use Rattle.insertion.specs.Planned.{insert_planned}
use Rattle.quoting.specs.Quoting.{quote_in}
use Rattle.quoting.specs.Intents.{IntentIn, place, refuse}

-- "does exactly that"; a refused edge leaves the tables
abbrev pub committed_in : Tables → Counts → Bool → IntentIn → LandingIn
committed_in t c rings (place a b l v plan) = insert_planned plan t c rings (record { first = a; second = b; len = l; volume = v })
committed_in t c rings (refuse x) = landing_in t (refused_in x)

-- "does exactly that when a quote made now would be the same"; "32 .., nothing written"
unfoldable pub commit_in : Tables → Counts → ℕ → Bool → Quote → LandingIn
commit_in t c limit rings q =
    if not (eq_quote q (quote_in t.degrees t.sides t.ends t.labels c limit rings q.asked)) then landing_in t (refused_in 32)
    else land_in t c limit rings q.asked
