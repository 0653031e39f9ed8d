-- The entries of a round, made those of the workers that the rounds before had.
use Rattle.std.specs.Prelude.{◌≡◌, ℕ, ◌-◌, List, [], ◌∷◌, ◌++◌, length, drop, Option, None, Some}
use Rattle.site_core.specs.Asked.{Asked}
use Rattle.site_core.specs.Events.{Event, opens, publishes, adds, author_of, calls_of}
use Rattle.site_core.specs.Fits.{Listed}
use Rattle.site_core.specs.Meaning.{Meaning}
use Rattle.site_core.specs.Resuming.{base_of}
use Rattle.site_core.specs.Runs.{Continues}
use Rattle.site_core.specs.declared.reply.ReplyOf.{ReplyOf}

module _ {S : Type 0} where
  -- the same entry, but by this author and with this number among the author's entries
  abbrev pub given_to : ℕ → ℕ → Event S → Event S
  given_to author call (opens site) = opens site
  given_to author call (publishes p) =
      publishes (record {
        author = author;
        call = call;
        node = p.node;
        facts = p.facts;
        k = p.k;
        set = p.set;
      })
  given_to author call (adds adder number what) = adds author call what

  -- an entry by this author, as the next one of author `a - base` behind the entries h
  abbrev pub next_by : ℕ → List (Event S) → Option ℕ → Event S → Event S
  next_by base h None e = e
  next_by base h (Some a) e = given_to (a - base) (calls_of (a - base) h) e

  -- what author `base + w` made behind the entries h, as the next entry of author w
  abbrev pub by_worker : ℕ → List (Event S) → Event S → Event S
  by_worker base h e = next_by base h (author_of e) e

  -- each of these entries so, one behind the other
  abbrev pub by_workers : ℕ → List (Event S) → List (Event S) → List (Event S)
  by_workers base h [] = []
  by_workers base h (e ∷ es) = by_worker base h e ∷ by_workers base (h ++ by_worker base h e ∷ []) es

-- What new authors, `base` and those behind it, made of the requests behind the entries `before`: h is that, but with
-- each of their entries made that of its worker.
pub record GoesOn {S C F : Type 0} (meaning : Meaning S C F) (listed : Listed S) (limit workers : ℕ)
    (before : List (Event S)) (requests : List (Asked S)) (replies : List (ReplyOf C F)) (h : List (Event S)) : Type 0
  where
    pub came : List (Event S)
    pub continues : Continues meaning listed limit (base_of before) workers before requests replies came
    pub is : h ≡ before ++ by_workers (base_of before) before (drop (length before) came)
