-- What is marked of a walk is what it needs.
use Rattle.std.proofs.Common.{◌≡◌, ◌⊎◌, ℕ, Bool, true, false, not, ◌||◌, List, [], ◌∷◌, ◌++◌, Option, Some, None}
use Rattle.std.proofs.Common.{Result, Ok, Err, refl, sym, ap, subst, ◌∙◌, inl, inr, append_assoc, append-nil}
use Rattle.std.specs.Prelude.{if◌then◌else◌}
use Rattle.base_types.specs.Access.{allows}
use Rattle.base_types.specs.Outcomes.{and_then}
use Rattle.base_types.specs.declared.ids.Fid.{Fid}
use Rattle.base_types.specs.declared.user.User.{User}
use Rattle.token_types.specs.declared.token.Need.{Need}
use Rattle.tree_calls.specs.declared.part.DirEntry.{DirEntry}
use Rattle.tree_calls.specs.declared.reply.Refusal.{Refusal}
use Rattle.tree_calls.specs.declared.reply.Refusal.TheVariants.{Denied, NoEntry, NotDir}
use Rattle.tree_filesets.specs.Rights.{execute_right}
use Rattle.tree_filesets.specs.Walk.{entry_or_none}
use Rattle.tree_answers.specs.Finding.{found_or}
use Rattle.tree_laws.specs.Parts.{Nature}
use Rattle.tree_laws.specs.Parts.Part.{Entries, Traits}
use Rattle.tree_objects.specs.Entries.{entry_named}
use Rattle.need_host.specs.Looks.{Look, View, after_check, checked, kind_for, look_on, needs_of, outcome, refuse_if}
use Rattle.need_host.specs.Looks.Look.{Ends as EndsIn, Looks, Takes}
use Rattle.need_host.specs.Walks.{fid_in, nature_look, rights_on, step_look, target_look, walk_look}
use Rattle.need_host.proofs.Looking.{outcome_on}
use Rattle.host_walk.specs.Marks.{marked_on, marks_of, way_by, way_from, way_of}
use Rattle.host_walk.specs.Trying.{status_need, whole_need}
use Rattle.host_walk.specs.WalkLaws.{AllMarksAreNeeds, IsAmong, MarksAreNeeds}
use Rattle.host_walk.specs.declared.marks.Onward.{Onward}
use Rattle.host_walk.specs.declared.marks.Onward.TheVariants.{Ends, Misses, Leads}

-- ---- lists
module _ {A : Type 0} (x : A) where
  among_front : (xs ys : List A) → IsAmong x xs → IsAmong x (xs ++ ys)
  among_front [] ys h = absurd h
  among_front (z ∷ xs) ys (inl e) = inl e
  among_front (z ∷ xs) ys (inr h) = inr (among_front xs ys h)

  among_back : (xs ys : List A) → IsAmong x ys → IsAmong x (xs ++ ys)
  among_back [] ys h = h
  among_back (z ∷ xs) ys h = inr (among_back xs ys h)

  among_parts : (xs ys : List A) → IsAmong x (xs ++ ys) → IsAmong x xs ⊎ IsAmong x ys
  among_parts [] ys h = inr h
  among_parts (z ∷ xs) ys (inl e) = inl (inl e)
  among_parts (z ∷ xs) ys (inr h) = elim (among_parts xs ys h) [ inl k ↦ inl (inr k) | inr k ↦ inr k ]

needs_on : {A B : Type 0} (view : View) (look : Look A) (next : A → Look B) →
    needs_of view (look_on look next) ≡ needs_of view look ++ needs_of view (next (outcome view look))
needs_on view (EndsIn result) next = refl
needs_on view (Looks fid part after) next =
    ap (λ needs. record { fid = fid; kind = kind_for part } ∷ needs) (needs_on view (after (view fid part)) next)
needs_on view (Takes need after) next = ap (λ needs. need ∷ needs) (needs_on view after next)

module _ (view : View) (user : User) where
  -- ---- one name
  module _ (at : Fid) (name : List ℕ) where
    abbrev last_look : List DirEntry → Look (Result Fid Refusal)
    last_look entries =
        EndsIn (and_then (entry_or_none (entry_named entries name)) (λ entry. Ok (fid_in at entry)))

    abbrev entries_then : Look (Result Fid Refusal)
    entries_then = Looks at Entries (λ entries. last_look entries)

    -- behind the nature
    abbrev behind : Option Nature → Look (Result Fid Refusal)
    behind None = EndsIn (Err NoEntry)
    behind (Some nature) =
        refuse_if (not nature.dir) NotDir
        (refuse_if (not (allows (rights_on nature user) execute_right)) (Denied execute_right) entries_then)

    abbrev entered : Option DirEntry → Result Fid Refusal
    entered o = and_then (entry_or_none o) (λ entry. Ok (fid_in at entry))

    -- what a step needs behind the status, and how it ends
    abbrev StepIs : Look (Result Fid Refusal) → Onward → Type 0
    StepIs look Ends = (needs_of view look ≡ []) × ((r : Refusal) × (outcome view look ≡ Err r))
    StepIs look Misses = (needs_of view look ≡ whole_need at ∷ []) × ((r : Refusal) × (outcome view look ≡ Err r))
    StepIs look (Leads fid) = (needs_of view look ≡ whole_need at ∷ []) × (outcome view look ≡ Ok fid)

    by_entry : (o : Option DirEntry) → entry_named (view at Entries) name ≡ o → StepIs entries_then (way_by at o)
    by_entry None e = (refl, (NoEntry, ap entered e))
    by_entry (Some entry) e = (refl, ap entered e)

    abbrev searched : Bool → Bool → Look (Result Fid Refusal)
    searched b c = refuse_if (not b) NotDir (refuse_if (not c) (Denied execute_right) entries_then)

    by_tests : (b c : Bool) →
        StepIs (searched b c) (if not b || not c then Ends else way_by at (entry_named (view at Entries) name))
    by_tests true true = by_entry (entry_named (view at Entries) name) refl
    by_tests true false = (refl, (Denied execute_right, refl))
    by_tests false c = (refl, (NotDir, refl))

    by_nature : (o : Option Nature) → StepIs (behind o) (way_from view user at name o)
    by_nature None = (refl, (NoEntry, refl))
    by_nature (Some nature) = by_tests nature.dir (allows (rights_on nature user) execute_right)

    -- the look of a name is that behind the nature
    same_behind : (o : Option Nature) →
        after_check (λ nature. checked (refuse_if (not nature.dir) NotDir
        (refuse_if (not (allows (rights_on nature user) execute_right)) (Denied execute_right)
        (Looks at Entries (λ entries. EndsIn (Ok entries))))) last_look) (found_or o NoEntry) ≡ behind o
    same_behind None = refl
    same_behind (Some nature) = by_two (not nature.dir) (not (allows (rights_on nature user) execute_right))
      where
        by_two : (b c : Bool) →
            checked (refuse_if b NotDir (refuse_if c (Denied execute_right)
            (Looks at Entries (λ entries. EndsIn (Ok entries))))) last_look
            ≡ refuse_if b NotDir (refuse_if c (Denied execute_right) entries_then)
        by_two true c = refl
        by_two false true = refl
        by_two false false = refl

    step_needs : needs_of view (step_look user at name) ≡ status_need at ∷ needs_of view (behind (view at Traits))
    step_needs = ap (λ look. status_need at ∷ needs_of view look) (same_behind (view at Traits))

    step_ends : outcome view (step_look user at name) ≡ outcome view (behind (view at Traits))
    step_ends = ap (outcome view) (same_behind (view at Traits))

  -- ---- a path
  abbrev with_nature : Fid → Look (Result (Fid × Nature) Refusal)
  with_nature fid = checked (nature_look fid) (λ nature. EndsIn (Ok (fid, nature)))

  abbrev target_needs : Fid → List (List ℕ) → List Need
  target_needs at path = needs_of view (target_look user at path)

  end_needs : (fid : Fid) → needs_of view (with_nature fid) ≡ status_need fid ∷ []
  end_needs fid = by_nature_there (view fid Traits)
    where
      by_nature_there : (o : Option Nature) →
          status_need fid ∷ needs_of view
          (after_check {B = Fid × Nature} (λ nature. EndsIn (Ok (fid, nature))) (found_or o NoEntry))
          ≡ status_need fid ∷ []
      by_nature_there None = refl
      by_nature_there (Some nature) = refl

  module _ (at : Fid) (name : List ℕ) (names : List (List ℕ)) where
    abbrev rest : Fid → Look (Result Fid Refusal)
    rest next = walk_look user next names

    abbrev first_look : Look (Result Fid Refusal)
    first_look = step_look user at name

    walk_needs : (r : Result Fid Refusal) → outcome view first_look ≡ r →
        needs_of view (checked first_look rest) ≡ needs_of view first_look ++ needs_of view (after_check rest r)
    walk_needs r e =
        needs_on view first_look (after_check rest)
        ∙ ap (λ (r : Result Fid Refusal). needs_of view first_look ++ needs_of view (after_check rest r)) e

    walk_outcome : (r : Result Fid Refusal) → outcome view first_look ≡ r →
        outcome view (checked first_look rest) ≡ outcome view (after_check rest r)
    walk_outcome r e =
        outcome_on view first_look (after_check rest)
        ∙ ap (λ (r : Result Fid Refusal). outcome view (after_check rest r)) e

    -- where the step refuses, and where it leads on
    needs_refused : (refusal : Refusal) → outcome view first_look ≡ Err refusal →
        target_needs at (name ∷ names) ≡ needs_of view first_look
    needs_refused refusal e =
        needs_on view (checked first_look rest) (after_check with_nature)
        ∙ ap (λ (r : Result Fid Refusal). needs_of view (checked first_look rest)
        ++ needs_of view (after_check with_nature r)) (walk_outcome (Err refusal) e)
        ∙ append-nil (needs_of view (checked first_look rest))
        ∙ walk_needs (Err refusal) e ∙ append-nil (needs_of view first_look)

    needs_led : (next : Fid) → outcome view first_look ≡ Ok next →
        target_needs at (name ∷ names) ≡ needs_of view first_look ++ target_needs next names
    needs_led next e =
        needs_on view (checked first_look rest) (after_check with_nature)
        ∙ ap (λ (r : Result Fid Refusal). needs_of view (checked first_look rest)
        ++ needs_of view (after_check with_nature r)) (walk_outcome (Ok next) e)
        ∙ ap (λ needs. needs ++ needs_of view (after_check with_nature (outcome view (rest next))))
        (walk_needs (Ok next) e)
        ∙ append_assoc (needs_of view first_look) (needs_of view (rest next))
        (needs_of view (after_check with_nature (outcome view (rest next))))
        ∙ ap (λ needs. needs_of view first_look ++ needs)
        (sym (needs_on view (rest next) (after_check with_nature)))

  module _ (needs : List Need) where
    marks_at_end : (at : Fid) → MarksAreNeeds view user needs [] at
    marks_at_end at = record {
      from = from;
      walked = λ need h. on_front need (subst (IsAmong need) (end_needs at) h);
      last = λ need fid e h. inr h;
    }
      where
        from : (need : Need) → IsAmong need (status_need at ∷ needs) →
            IsAmong need (target_needs at [])
            ⊎ (IsAmong need needs × ((fid : Fid) × (outcome view (walk_look user at []) ≡ Ok fid)))
        from need (inl e) = inl (subst (IsAmong need) (sym (end_needs at)) (inl e))
        from need (inr h) = inr (h, (at, refl))

        on_front : (need : Need) → IsAmong need (status_need at ∷ []) → IsAmong need (status_need at ∷ needs)
        on_front need (inl e) = inl e
        on_front need (inr h) = absurd h

    module _ (at : Fid) (name : List ℕ) (names : List (List ℕ)) where
      -- the walk ends here, with these needs
      refused_here : (refusal : Refusal) → outcome view (step_look user at name) ≡ Err refusal → (here : List Need) →
          needs_of view (step_look user at name) ≡ here →
          marks_of view user needs (name ∷ names) at ≡ here → MarksAreNeeds view user needs (name ∷ names) at
      refused_here refusal e here is marks = record {
        from = λ need h. inl (subst (IsAmong need) (sym all) (subst (IsAmong need) marks h));
        walked = λ need h. subst (IsAmong need) (sym marks) (subst (IsAmong need) all h);
        last = λ need fid ends h.
            let apart = sym (walk_outcome at name names (Err refusal) e) ∙ ends in absurd (cc);
      }
        where
          all : target_needs at (name ∷ names) ≡ here
          all = needs_refused at name names refusal e ∙ is

      led_on : (next : Fid) → outcome view (step_look user at name) ≡ Ok next → (here : List Need) →
          needs_of view (step_look user at name) ≡ here →
          marks_of view user needs (name ∷ names) at ≡ marks_of view user needs names next ++ here →
          MarksAreNeeds view user needs names next → MarksAreNeeds view user needs (name ∷ names) at
      led_on next e here is marks later = record {
        from = λ need h. from need (among_parts need (marks_of view user needs names next) here
            (subst (IsAmong need) marks h));
        walked = λ need h. subst (IsAmong need) (sym marks) (walked need
            (among_parts need here (target_needs next names) (subst (IsAmong need) all h)));
        last = λ need fid ends h. subst (IsAmong need) (sym marks)
            (among_front need (marks_of view user needs names next) here
            (later.last need fid (sym (walk_outcome at name names (Ok next) e) ∙ ends) h));
      }
        where
          all : target_needs at (name ∷ names) ≡ here ++ target_needs next names
          all = needs_led at name names next e ∙ ap (λ front. front ++ target_needs next names) is

          from : (need : Need) → IsAmong need (marks_of view user needs names next) ⊎ IsAmong need here →
              IsAmong need (target_needs at (name ∷ names))
              ⊎ (IsAmong need needs × ((fid : Fid) × (outcome view (walk_look user at (name ∷ names)) ≡ Ok fid)))
          from need (inl h) = elim (later.from need h) [
            | inl k ↦ inl (subst (IsAmong need) (sym all) (among_back need here (target_needs next names) k))
            | inr k ↦ inr (k.0, (k.1.0, walk_outcome at name names (Ok next) e ∙ k.1.1))
          ]
          from need (inr h) =
              inl (subst (IsAmong need) (sym all) (among_front need here (target_needs next names) h))

          walked : (need : Need) → IsAmong need here ⊎ IsAmong need (target_needs next names) →
              IsAmong need (marks_of view user needs names next ++ here)
          walked need (inl h) = among_back need (marks_of view user needs names next) here h
          walked need (inr h) = among_front need (marks_of view user needs names next) here (later.walked need h)

      by_way : (way : Onward) → way_of view user at name ≡ way →
          StepIs at name (behind at name (view at Traits)) way →
          ((next : Fid) → MarksAreNeeds view user needs names next) → MarksAreNeeds view user needs (name ∷ names) at
      by_way Ends e h later =
          refused_here h.1.0 (step_ends at name ∙ h.1.1) (status_need at ∷ [])
          (step_needs at name ∙ ap (λ ns. status_need at ∷ ns) h.0)
          (ap (marked_on at (marks_of view user needs names)) e)
      by_way Misses e h later =
          refused_here h.1.0 (step_ends at name ∙ h.1.1) (status_need at ∷ whole_need at ∷ [])
          (step_needs at name ∙ ap (λ ns. status_need at ∷ ns) h.0)
          (ap (marked_on at (marks_of view user needs names)) e)
      by_way (Leads next) e h later =
          led_on next (step_ends at name ∙ h.1) (status_need at ∷ whole_need at ∷ [])
          (step_needs at name ∙ ap (λ ns. status_need at ∷ ns) h.0)
          (ap (marked_on at (marks_of view user needs names)) e) (later next)

pub marks_are_needs : AllMarksAreNeeds
marks_are_needs view user needs [] at = marks_at_end view user needs at
marks_are_needs view user needs (name ∷ names) at =
    by_way view user needs at name names (way_of view user at name) refl
    (by_nature view user at name (view at Traits)) (λ next. marks_are_needs view user needs names next)
