-- What a host sees, and calls clean, when it answers, is so in a tree that agrees with the run.
use Rattle.std.proofs.Common.{Bool, List, None, Option, Some, ap, false, inl, inr, refl, subst, sym, true, ℕ, ◌&&◌}
use Rattle.std.proofs.Common.{◌||◌, ◌∙◌, ◌∷◌, ◌≡◌, ◌≤◌}
use Rattle.std.proofs.lemmas.Bool.{and_parts, eqb-true, false≢true}
use Rattle.std.specs.Prelude.{[], map}
use Rattle.base_types.specs.Ids.{same_fid}
use Rattle.base_types.specs.declared.ids.Fid.{Fid}
use Rattle.base_types.specs.declared.ids.HostId.{HostId}
use Rattle.base_types.specs.declared.ids.Node.TheVariants.{Host}
use Rattle.base_types.specs.declared.ids.ServerId.{ServerId}
use Rattle.base_types.specs.declared.limits.TheConstants.{FILE_BYTES_MAX}
use Rattle.need_host.proofs.Showing.{nothing_beyond, shown_agree}
use Rattle.need_host.specs.Laws.{AgreeUnder}
use Rattle.need_host.specs.Looks.{tree_view}
use Rattle.need_host.specs.Shows.{needs_show, shows}
use Rattle.tree_answers.specs.WellFormed.{IsWellFormed}
use Rattle.tree_answers.specs.declared.tree.Tree.{Tree}
use Rattle.message_types.specs.declared.giving.Give.{Give}
use Rattle.script_lines.specs.declared.script.Script.{Script}
use Rattle.token_types.specs.Conflicts.{need_of}
use Rattle.token_types.specs.declared.token.Token.{Token}
use Rattle.tree_laws.proofs.Steps.{fid_is}
use Rattle.tree_laws.specs.Fates.{is_of}
use Rattle.tree_laws.specs.Parts.{Cell, Part, Seen, Written, cell_at, present}
use Rattle.tree_laws.specs.Parts.Part.{ByteAt, Entries, Size, Traits}
use Rattle.run_rules.specs.Doings.{HasGoneAway, IsApplied, doings_of}
use Rattle.run_rules.specs.Past.{In}
use Rattle.run_rules.specs.Runs.{StepMeets, StepsMeet}
use Rattle.run_rules.specs.Steps.{steps_of_host}
use Rattle.run_rules.specs.Tokens.{AtHand, IsKnown, Made, Owns, number_of}
use Rattle.run_rules.specs.Views.{IsClean, IsLastLength, LengthIsClean, sees as host_sees}
use Rattle.run_parts.proofs.Words.{host_split}
use Rattle.run_history.proofs.Sound.{sees_zero, view_zero}
use Rattle.run_parts.proofs.Cells.{none_some}
use Rattle.run_parts.proofs.Invariant.{Shown}
use Rattle.run_parts.proofs.PlaceLaw.{Kept}
use Rattle.run_parts.specs.Cells.{by}
use Rattle.run_parts.specs.Contents.{Contents, MadeSince, Pending, dirty, sees, site, view}
use Rattle.run_parts.specs.Deeds.{acts_in}
use Rattle.run_parts.specs.Legal.{LegalStep, served as served_deeds, tree}
use Rattle.run_contents.proofs.Gives.{owns_held}
use Rattle.run_contents.proofs.Runs.{own_run}
use Rattle.run_contents.proofs.Views.{dirty_same, sees_same}
use Rattle.run_contents.proofs.Words.{update_byte, update_size}
use Rattle.run_contents.specs.Steps.{HostRun, IsOfJournal}
use Rattle.run_tokens.proofs.Invariant.{Link}
use Rattle.run_tokens.proofs.Law.{Whole}
use Rattle.run_tokens.proofs.Words.{own_after}
use Rattle.run_rules.specs.declared.step.Step.{Step}

-- a token among some that shows a part
shown_in : (ts : List Token) (f : Fid) (p : Part) → needs_show (map need_of ts) f p ≡ true
    → (t : Token) × In t ts × (t.fid ≡ f) × (shows t.kind p ≡ true)
shown_in [] f p e = absurd (false≢true e)
shown_in (t ∷ ts) f p e = go (same_fid t.fid f && shows t.kind p) refl (λ r. shown_in ts f p r) e
  where
    go : (b : Bool) → (same_fid t.fid f && shows t.kind p) ≡ b
        → (needs_show (map need_of ts) f p ≡ true → (u : Token) × In u ts × (u.fid ≡ f) × (shows u.kind p ≡ true))
        → (b || needs_show (map need_of ts) f p) ≡ true
        → (u : Token) × In u (t ∷ ts) × (u.fid ≡ f) × (shows u.kind p ≡ true)
    go true q rest r =
        let k = and_parts (same_fid t.fid f) (shows t.kind p) q in (t, inl refl, fid_is t.fid f k.0, k.1)
    go false q rest r = let u = rest r in (u.0, inr u.1, u.2, u.3)

-- what is a host's is by it
own_by : {X : Type 0} (h : HostId) (o : Option (Written X)) → is_of h o ≡ true → (x : X) × (o ≡ Some (by h x))
own_by h None e = absurd (false≢true e)
own_by h (Some u) e =
    let one : u.writer ≡ h = ap (λ (n : ℕ). record { 0 = n }) (eqb-true u.writer.0 h.0 e) in
    (u.value, λ i. Some (record { writer = one i; value = u.value }))

not_own : {X : Type 0} (h : HostId) (o : Option (Written X)) → ((x : X) → o ≡ Some (by h x) → ⊥) → is_of h o ≡ false
not_own h o never = go (is_of h o) refl
  where
    go : (b : Bool) → is_of h o ≡ b → is_of h o ≡ false
    go true e = let k = own_by h o e in absurd (never k.0 k.1)
    go false e = e

-- the last give-back with a length since the token was taken
last_since : (past : List Step) (f : Fid) (g : Give) → IsLastLength past f g → MadeSince past f g
last_since [] f g l = l
last_since (s ∷ past) f g (inl l) = inl l.0
last_since (s ∷ past) f g (inr l) =
    inr (last_since past f g l.0, λ (t, m, u). l.1 (t, m, (u.file, update_size t.kind u.covers u.update)))

last_made : (past : List Step) (f : Fid) (g : Give) → IsLastLength past f g → Made past g × (g.fid ≡ f)
last_made [] f g l = elim l [ ]
last_made (s ∷ past) f g (inl l) = (inl l.0, l.1.0)
last_made (s ∷ past) f g (inr l) = let k = last_made past f g l.0 in (inr k.0, k.1)

-- a host's step in a run, and a tree whose cells are those of the run before it
module _ (script : Script) (start : Tree) (firsts : ServerId → ℕ) (c : Contents) (same : IsOfJournal c)
    (past : List Step) (run : StepsMeet script start firsts past) (h : HostId) (s : Step)
    (m : StepMeets script start firsts (Host h) past s) (tree_is : Tree) (formed : IsWellFormed tree_is)
    (cells : (f : Fid) (p : Part) → cell_at tree_is f p ≡ tree c past f p) where
  abbrev A : List Step
  A = steps_of_host h past

  own_steps : HostRun script h A
  own_steps = own_run script start firsts past run h

  -- its view agrees with the tree under its tokens
  pub agrees : LegalStep c firsts (Host h) s past → AgreeUnder m.0.stance.held (host_sees A s) (tree_view tree_is)
  agrees legal = shown_agree m.0.stance.held (host_sees A s) (tree_view tree_is) under beyond
    where
      under : (f : Fid) (p : Part) → needs_show (map need_of m.0.stance.held) f p ≡ true
          → host_sees A s f p ≡ tree_view tree_is f p
      under f p e =
          let t = shown_in m.0.stance.held f p e in
          subst (λ (g : Fid). host_sees A s g p ≡ tree_view tree_is g p) t.2
          (sym (sees_same c same script h A own_steps s t.0.fid p)
          ∙ (legal t.0 p ((m.0.stance.holds t.0).0 t.1) t.3
          ∙ ap (λ (z : Cell (Seen p)). present z) (sym (cells t.0.fid p))))

      beyond : (f : Fid) (at : ℕ) → FILE_BYTES_MAX ≤ at → host_sees A s f (ByteAt at) ≡ tree_view tree_is f (ByteAt at)
      beyond f at far =
          sym (sees_same c same script h A own_steps s f (ByteAt at))
          ∙ (sees_zero script start firsts c same h f at far past run s m
          (view_zero script start firsts c same h f at far past run)
          ∙ sym (nothing_beyond tree_is f at formed far))

  -- of a file that it calls clean nothing of its own is unsaved
  module _ (kept : Kept c firsts past) (whole : Whole (λ k. own_after k (Host h) s (steps_of_host k past)) (λ v. doings_of (firsts v) v past))
      (legal : LegalStep c firsts (Host h) s past) where
    abbrev at : (f : Fid) → Shown c h A (tree c past) (site f) (served_deeds c (firsts (site f)) (site f) past)
    at f = (kept.at (site f)).shown h

    link : (v : ServerId) → Link h v (s ∷ A) (doings_of (firsts v) v past)
    link v =
        subst (λ L. Link h v L (doings_of (firsts v) v past))
        (host_split (λ L. L ≡ s ∷ A) h h (s ∷ A) A (λ _. refl) (λ two. absurd (two refl))) ((whole.at v).link h)

    held : (t : Token) → Owns A t → AtHand s A t
    held t o = inr (owns_held script h A own_steps m.0.tokens.live t o)

    -- what is known as applied is applied
    applied : (g : Give) (f : Fid) → g.fid ≡ f → IsKnown (s ∷ A) g
        → IsApplied (site f) (acts_in (served_deeds c (firsts (site f)) (site f) past)) h (number_of g)
    applied g f file known =
        subst (λ S. IsApplied (site f) S h (number_of g)) (sym (kept.same (site f)))
        ((link (site f)).known (number_of g) (ap site file) known)

    none_pending : (f : Fid) → IsClean A s f → (p : Part) → (x : Seen p) → (tree c past f p).unsaved ≡ Some (by h x)
        → (HasGoneAway (acts_in (served_deeds c (firsts (site f)) (site f) past)) h → ⊥) → Pending c A f p → ⊥
    none_pending f k (ByteAt q) x e live d =
        let u = (kept.seen h).dirty_owned q f d in
        let b = update_byte u.token.kind q u.covers u.update in
        k.none_dirty u.token (held u.token u.owned) u.file
        (inl (
          q,
          (
            (b.0, refl, b.1, b.2),
            sym (dirty_same c same script h A own_steps u.token.fid q)
                ∙ (ap (λ (g : Fid). dirty c A g q) u.file ∙ d),
          ),
        ))
    none_pending f k Size x e live u =
        k.none_dirty u.token (held u.token u.owned) u.file
        (inr ((refl, update_size u.token.kind u.covers u.update), unclean))
      where
        seen_now : sees c A s f Size ≡ view c A f Size
        seen_now = subst (λ (g : Fid). sees c A s g Size ≡ view c A g Size) u.file
            (legal u.token Size (held u.token u.owned) u.covers
            ∙ sym ((at u.token.fid).cached Size u.token refl u.owned u.covers
            (λ w. live (subst (λ (g : Fid). HasGoneAway (acts_in (served_deeds c (firsts (site g)) (site g) past)) h) u.file w))))

        unclean : LengthIsClean A s u.token.fid → ⊥
        unclean l =
            let k = last_made A u.token.fid l.give l.last in
            let none : (tree c past f Size).unsaved ≡ None =
            (at f).settled f l.give refl u
            (subst (λ (g : Fid). MadeSince A g l.give) u.file (last_since A u.token.fid l.give l.last)) k.0
            (k.1 ∙ u.file)
            (same.gives l.give Size ∙ (l.present
            ∙ ap (λ z. Some z) (ap (λ (g : Fid). host_sees A s g Size) u.file
            ∙ (sym (sees_same c same script h A own_steps s f Size) ∙ seen_now))))
            (applied l.give f (k.1 ∙ u.file) l.known) live in
            none_some (tree c past f Size).unsaved (by h x) none e
    none_pending f k Traits x e live d = elim d [ ]
    none_pending f k Entries x e live d = elim d [ ]

    pub is_clean : (f : Fid) → IsClean A s f → (p : Part) → is_of h (cell_at tree_is f p).unsaved ≡ false
    is_clean f k p = not_own h (cell_at tree_is f p).unsaved never
      where
        never : (x : Seen p) → (cell_at tree_is f p).unsaved ≡ Some (by h x) → ⊥
        never x e =
            let q : (tree c past f p).unsaved ≡ Some (by h x) =
            ap (λ (z : Cell (Seen p)). z.unsaved) (sym (cells f p)) ∙ e in
            let mine = (at f).mine p f x refl q in
            elim mine.1 [
              | inl d ↦ none_pending f k p x q mine.0 d
              | inr o ↦ o.1.not_applied (applied o.0 f o.1.file (k.none_open o.0 o.1.made o.1.file))
            ]
