-- What is found as pairs are followed, step by step.
use Rattle.std.proofs.Common.{◌≡◌, ◌⊎◌, ℕ, ◌+◌, ◌<◌, ◌≤◌, Bool, true, false, not, cond, List, [], ◌∷◌, ◌++◌, length, map, take, get_or, set, Contains, count_by, inl, inr, refl, sym, subst, ap, ap₂, ◌∙◌, arith, true≢false, length-set, length-append}
use Rattle.std.specs.Prelude.{nat_eq}
use Rattle.std.proofs.lemmas.Bool.Decides.{eqb_tells}
use Rattle.std.proofs.lemmas.List.{take_more}
use Rattle.std.proofs.lemmas.List.Elements.{Contains-push, Contains-push_cases, Contains-append_left, Contains-append_right, Contains-append_cases}
use Rattle.rel_graph.specs.Before.{Belongs, Direct}
use Rattle.rel_graph.specs.Chains.{Paired}
use Rattle.rel_graph.specs.Marks.{Marked}
use Rattle.rel_graph.specs.Pairs.{AllBelow, flip}
use Rattle.rel_graph.specs.Releases.{targets, weight}
use Rattle.rel_graph.specs.Visits.{IsClosed, IsCrossed, AreNew, Reaching}
use Rattle.rel_graph.proofs.Below.{paired_below}
use Rattle.rel_graph.proofs.Chains.{belongs_more, belongs_carries}
use Rattle.rel_graph.proofs.Flips.{belongs_flip, belongs_back}
use Rattle.rel_graph.proofs.ReleaseLemmas.{turn_more}
use Rattle.rel_graph.proofs.Marking.{marked_set_here, marked_set_keeps, marked_set_cases, fewer_unmarked}

-- ---- members of lists

first_or_rest : {X : Type 0} (y : X) (rest : List X) (x : X) → Contains (y ∷ rest) x → (y ≡ x) ⊎ Contains rest x
first_or_rest y rest x c = elim (Contains-append_cases (y ∷ []) rest x c) [
  | inl h ↦ elim (Contains-push_cases [] y x h) [
    | inl none ↦ absurd (let n = none.1 in omega (arith, n))
    | inr same ↦ inl same
  ]
  | inr h ↦ inr h
]

in_rest : {X : Type 0} (y : X) (rest : List X) (x : X) → Contains rest x → Contains (y ∷ rest) x
in_rest y rest x c = Contains-append_right (y ∷ []) rest x c

at_first : {X : Type 0} (y : X) (rest : List X) → Contains (y ∷ rest) y
at_first y rest = Contains-append_left (y ∷ []) rest y (Contains-push [] y)

pub none_in : {X : Type 0} (x : X) → ¬ (Contains [] x)
none_in x c = absurd (let h = c.1 in omega (arith, h))

-- what pairs lead to is among the targets, and nothing else is
pub targets_all : (pairs : List (ℕ × ℕ)) (u v : ℕ) → Paired pairs u v → Contains (targets pairs u) v
targets_all [] u v p = absurd (none_in (u, v) p)
targets_all (a ∷ pairs) u v p = elim (first_or_rest a pairs (u, v) p) [
  | inl e ↦ elim (eqb_tells u a.0) [
    | inl same ↦
        subst (λ b. Contains (cond b (a.1 ∷ targets pairs u) (targets pairs u)) v) (sym same.0)
        (subst (λ w. Contains (a.1 ∷ targets pairs u) w) (ap (λ r. r.1) e) (at_first a.1 (targets pairs u)))
    | inr other ↦ absurd (other.1 (sym (ap (λ r. r.0) e)))
  ]
  | inr q ↦
      let rest = targets_all pairs u v q in
      elim (nat_eq u a.0) as (λ b. Contains (cond b (a.1 ∷ targets pairs u) (targets pairs u)) v) [
        | true ↦ in_rest a.1 (targets pairs u) v rest
        | false ↦ rest
      ]
]

pub targets_only : (pairs : List (ℕ × ℕ)) (u v : ℕ) → Contains (targets pairs u) v → Paired pairs u v
targets_only [] u v c = absurd (none_in v c)
targets_only (a ∷ pairs) u v c = elim (eqb_tells u a.0) [
  | inl same ↦ elim (first_or_rest a.1 (targets pairs u) v
      (subst (λ b. Contains (cond b (a.1 ∷ targets pairs u) (targets pairs u)) v) same.0 c)) [
        | inl e ↦ subst (λ w. Contains (a ∷ pairs) w) (ap₂ (λ x y. (x, y)) (sym same.1) e) (at_first a pairs)
        | inr q ↦ in_rest a pairs (u, v) (targets_only pairs u v q)
      ]
  | inr other ↦ in_rest a pairs (u, v) (targets_only pairs u v
      (subst (λ b. Contains (cond b (a.1 ∷ targets pairs u) (targets pairs u)) v) other.0 c))
]

-- ---- one step

module _ (pairs : List (ℕ × ℕ)) (before : List Bool) (start : List ℕ) (marks : List Bool) (ahead found : List ℕ) (at :
    ℕ)
    (r : Reaching pairs before start marks (ahead ++ at ∷ []) found) where
  still_ahead : (v : ℕ) → Contains ahead v → Contains (ahead ++ at ∷ []) v
  still_ahead v c = Contains-append_left ahead (at ∷ []) v c

  -- it was marked
  pub reaching_again : Marked marks at → Reaching pairs before start marks ahead found
  reaching_again m = record {
    news = r.news;
    within = λ v c. r.within v (still_ahead v c);
    begun = λ v c. elim (r.begun v c) [
      | inl k ↦ inl k
      | inr q ↦ elim (Contains-push_cases ahead at v q) [
        | inl old ↦ inr old
        | inr same ↦ inl (subst (λ w. Marked marks w) same m)
      ]
    ];
    closing = λ x y p k. elim (r.closing x y p k) [
      | inl l ↦ inl l
      | inr q ↦ elim (Contains-push_cases ahead at y q) [
        | inl old ↦ inr old
        | inr same ↦ inl (subst (λ w. Marked marks w) same m)
      ]
    ];
    ahead_sound = λ v c. r.ahead_sound v (still_ahead v c);
    found_sound = r.found_sound;
  }

  -- it was not
  module _ (below : AllBelow pairs (length marks)) (inside : at < length marks)
      (unmarked : get_or marks at false ≡ false) where
    abbrev after : List Bool
    after = set marks at true

    abbrev farther : List ℕ
    farther = ahead ++ targets pairs at

    keeps : (x : ℕ) → Marked marks x → Marked after x
    keeps x m = marked_set_keeps marks at x inside m

    here : Marked after at
    here = marked_set_here marks at inside

    at_sound : (s : ℕ) × Contains start s × Belongs pairs at s
    at_sound = r.ahead_sound at (Contains-push ahead at)

    news_more : AreNew before after (found ++ at ∷ [])
    news_more = record {
      long = length-set marks at true ∙ r.news.long;
      keeps = λ x m. keeps x (r.news.keeps x m);
      marked = λ x c. elim (Contains-push_cases found at x c) [
        | inl old ↦ keeps x (r.news.marked x old)
        | inr same ↦ subst (λ w. Marked after w) same here
      ];
      unmarked = λ x c. elim (Contains-push_cases found at x c) [
        | inl old ↦ r.news.unmarked x old
        | inr same ↦ subst (λ w. ¬ (Marked before w)) same
            (λ m. true≢false (sym (r.news.keeps at m) ∙ unmarked))
      ];
      all = λ x m. elim (marked_set_cases marks at x m) [
        | inl same ↦ inr (subst (λ w. Contains (found ++ at ∷ []) w) same (Contains-push found at))
        | inr k ↦ elim (r.news.all x k) [
          | inl old ↦ inl old
          | inr c ↦ inr (Contains-append_left found (at ∷ []) x c)
        ]
      ];
      fewer = (let a = r.news.fewer in let b = fewer_unmarked marks at inside unmarked in
          let c = length-append found (at ∷ []) in omega (arith, a, b, c));
    }

    pub reaching_more : Reaching pairs before start after farther (found ++ at ∷ [])
    reaching_more = record {
      news = news_more;
      within = λ v c. elim (Contains-append_cases ahead (targets pairs at) v c) [
        | inl old ↦ r.within v (still_ahead v old)
        | inr new ↦ (let b = (paired_below pairs (length marks) at v below (targets_only pairs at v new)).1 in
            let e = r.news.long in omega (arith, b, e))
      ];
      begun = λ v c. elim (r.begun v c) [
        | inl k ↦ inl (keeps v k)
        | inr q ↦ elim (Contains-push_cases ahead at v q) [
          | inl old ↦ inr (Contains-append_left ahead (targets pairs at) v old)
          | inr same ↦ inl (subst (λ w. Marked after w) same here)
        ]
      ];
      closing = λ x y p k. elim (marked_set_cases marks at x k) [
        | inl same ↦ inr (Contains-append_right ahead (targets pairs at) y
            (targets_all pairs at y (subst (λ w. Paired pairs w y) (sym same) p)))
        | inr m ↦ elim (r.closing x y p m) [
          | inl l ↦ inl (keeps y l)
          | inr q ↦ elim (Contains-push_cases ahead at y q) [
            | inl old ↦ inr (Contains-append_left ahead (targets pairs at) y old)
            | inr same ↦ inl (subst (λ w. Marked after w) same here)
          ]
        ]
      ];
      ahead_sound = λ v c. elim (Contains-append_cases ahead (targets pairs at) v c) [
        | inl old ↦ r.ahead_sound v (still_ahead v old)
        | inr new ↦ (
          at_sound.0,
          at_sound.1,
          belongs_more pairs at v at_sound.0 at_sound.2 (targets_only pairs at v new),
        )
      ];
      found_sound = λ x c. elim (Contains-push_cases found at x c) [
        | inl old ↦ r.found_sound x old
        | inr same ↦ subst (λ w. (s : ℕ) × Contains start s × Belongs pairs w s) same at_sound
      ];
    }

pub reaching_start : (pairs : List (ℕ × ℕ)) (before : List Bool) (start : List ℕ) →
    ((v : ℕ) → Contains start v → v < length before) → IsClosed pairs before →
    Reaching pairs before start before start []
reaching_start pairs before start within closed = record {
  news = record {
    long = refl;
    keeps = λ _ m. m;
    marked = λ x c. absurd (none_in x c);
    unmarked = λ x c. absurd (none_in x c);
    all = λ _ m. inl m;
    fewer = omega arith;
  };
  within = within;
  begun = λ _ c. inr c;
  closing = λ x y p m. inl (closed x y p m);
  ahead_sound = λ v c. (v, c, inl refl);
  found_sound = λ x c. absurd (none_in x c);
}

-- ---- what targets of several are

module _ (pairs : List (ℕ × ℕ)) (found ts : List ℕ) (i : ℕ) (inside : i < length found) where
  pub all_more : ((x y : ℕ) → Contains (take i found) x → Paired pairs x y → Contains ts y) →
      (x y : ℕ) → Contains (take (i + 1) found) x → Paired pairs x y → Contains (ts ++ targets pairs (get_or found i
      0)) y
  all_more all x y c p = elim (Contains-push_cases (take i found) (get_or found i 0) x
      (subst (λ l. Contains l x) (take_more found i 0 inside) c)) [
        | inl old ↦ Contains-append_left ts (targets pairs (get_or found i 0)) y (all x y old p)
        | inr same ↦ Contains-append_right ts (targets pairs (get_or found i 0)) y
            (targets_all pairs (get_or found i 0) y (subst (λ w. Paired pairs w y) (sym same) p))
      ]

  pub sound_more : ((y : ℕ) → Contains ts y → (x : ℕ) × Contains (take i found) x × Paired pairs x y) →
      (y : ℕ) → Contains (ts ++ targets pairs (get_or found i 0)) y →
      (x : ℕ) × Contains (take (i + 1) found) x × Paired pairs x y
  sound_more sound y c = elim (Contains-append_cases ts (targets pairs (get_or found i 0)) y c) [
    | inl old ↦ (let s = sound y old in (
      s.0,
      subst (λ l. Contains l s.0) (sym (take_more found i 0 inside))
          (Contains-append_left (take i found) (get_or found i 0 ∷ []) s.0 s.1),
      s.2,
    ))
    | inr new ↦ (
      get_or found i 0,
      subst (λ l. Contains l (get_or found i 0)) (sym (take_more found i 0 inside))
          (Contains-push (take i found) (get_or found i 0)),
      targets_only pairs (get_or found i 0) y new,
    )
  ]

-- ---- up, across and down

-- what a set of marks is closed under, it has with all that belongs to it
pub closed_belongs : (pairs : List (ℕ × ℕ)) (marks : List Bool) (x s : ℕ) → IsClosed pairs marks → Belongs pairs x s →
    Marked marks s → Marked marks x
closed_belongs pairs marks x s closed b m =
    belongs_carries pairs (λ y. Marked marks y) (λ y z p k. closed y z p k) x s b m

module _ (C E : List (ℕ × ℕ)) (start ups targets_ downs : List ℕ) (outer outer' inner inner' : List Bool)
    (climb : Reaching (map flip C) outer start outer' [] ups)
    (all : (x y : ℕ) → Contains ups x → Paired E x y → Contains targets_ y)
    (sound : (y : ℕ) → Contains targets_ y → (x : ℕ) × Contains ups x × Paired E x y)
    (crossed : IsCrossed E outer inner) (fall : Reaching C inner targets_ inner' [] downs) where
  pub visit_up : IsClosed (map flip C) outer'
  visit_up x y p m = elim (climb.closing x y p m) [
    | inl k ↦ k
    | inr none ↦ absurd (none_in y none)
  ]

  pub visit_down : IsClosed C inner'
  visit_down x y p m = elim (fall.closing x y p m) [
    | inl k ↦ k
    | inr none ↦ absurd (none_in y none)
  ]

  target_marked : (y : ℕ) → Contains targets_ y → Marked inner' y
  target_marked y c = elim (fall.begun y c) [
    | inl k ↦ k
    | inr none ↦ absurd (none_in y none)
  ]

  pub visit_across : IsCrossed E outer' inner'
  visit_across x y p m = elim (climb.news.all x m) [
    | inl old ↦ fall.news.keeps y (crossed x y p old)
    | inr c ↦ target_marked y (all x y c p)
  ]

  pub visit_all : (s x : ℕ) → Contains start s → Direct C E s x → Marked inner' x
  visit_all s x c d =
      let begun : Marked outer' s = elim (climb.begun s c) [
        | inl k ↦ k
        | inr none ↦ absurd (none_in s none)
      ] in
      let up : Marked outer' d.earlier =
      closed_belongs (map flip C) outer' d.earlier s visit_up (belongs_flip C s d.earlier d.source) begun in
      closed_belongs C inner' x d.later visit_down d.target (visit_across d.earlier d.later d.edge up)

  pub visit_sound : (x : ℕ) → Contains downs x → (s : ℕ) × Contains start s × Direct C E s x
  visit_sound x c =
      let f = fall.found_sound x c in
      let t = sound f.0 f.1 in
      let u = climb.found_sound t.0 t.1 in (
        u.0,
        u.1,
        record {
          earlier = t.0;
          later = f.0;
          edge = t.2;
          source = belongs_back C u.0 t.0 u.2;
          target = f.2;
        },
      )

-- what is marked and what is ahead are fewer turns
pub lighter_more : (pairs : List (ℕ × ℕ)) (marks : List Bool) (ahead : List ℕ) (at : ℕ) → at < length marks →
    get_or marks at false ≡ false →
    weight (count_by not (set marks at true)) (length pairs) + length (ahead ++ targets pairs at) ≤
    weight (count_by not marks) (length pairs) + length ahead
lighter_more pairs marks ahead at inside unmarked =
    turn_more pairs at (count_by not marks) (count_by not (set marks at true)) (length ahead)
    (length (ahead ++ targets pairs at)) (fewer_unmarked marks at inside unmarked)
    (let e = length-append ahead (targets pairs at) in omega (arith, e))
