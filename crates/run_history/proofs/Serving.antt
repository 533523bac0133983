-- What a server's step leaves of the tree by its cause, and then by what it decides.
use Rattle.std.proofs.Common.{Bool, List, None, Option, Some, ap, false, inl, inr, is_some, length, nat_lt, refl}
use Rattle.std.proofs.Common.{subst, sym, true, ℕ, ◌&&◌, ◌++◌, ◌==◌, ◌||◌, ◌∙◌, ◌∷◌, ◌≡◌}
use Rattle.std.proofs.lemmas.Bool.{and_parts}
use Rattle.std.specs.List.{flat_map, list_all}
use Rattle.std.specs.Option.{option_map_or}
use Rattle.std.specs.Prelude.{IfSome, [], if◌then◌else◌, map}
use Rattle.base_types.specs.declared.ids.Fid.{Fid}
use Rattle.base_types.specs.declared.ids.HostId.{HostId}
use Rattle.base_types.specs.declared.ids.Node.TheVariants.{Server}
use Rattle.base_types.specs.declared.ids.ServerId.{ServerId}
use Rattle.tree_calls.specs.Limits.{keeps_limit}
use Rattle.tree_calls.specs.declared.call.Call.{Call}
use Rattle.tree_calls.specs.declared.call.Call.TheVariants.{CloseFile, Unlock}
use Rattle.tree_calls.specs.declared.entry.Entry.{Entry}
use Rattle.tree_calls.specs.declared.entry.Entry.TheVariants.{Down as DownEntry, Stored as StoredEntry}
use Rattle.tree_calls.specs.declared.reply.Reply.TheVariants.{Ok as Fine}
use Rattle.tree_filesets.specs.declared.fileset.Fileset.{Fileset}
use Rattle.need_host.proofs.Leading.{names_lead_on}
use Rattle.need_host.proofs.Present.{answers_leave_all}
use Rattle.need_host.specs.Looks.{kept_view}
use Rattle.need_host.specs.Present.{changes_nothing}
use Rattle.tree_answers.proofs.Kept.{formed_answer, formed_entry}
use Rattle.tree_answers.specs.Answers.{answer_to}
use Rattle.tree_answers.specs.Histories.{IsHistory, IsLegal, after_entry, after_history}
use Rattle.tree_answers.specs.WellFormed.{IsWellFormed}
use Rattle.tree_answers.specs.declared.tree.Tree.{Tree}
use Rattle.need_laws.proofs.Calls.{calls_keep_all, downs_keep_all}
use Rattle.need_laws.specs.Keeps.{KeepsAll, is_answered_alone}
use Rattle.message_types.specs.Soundness.{IsBody, IsEnd, IsGiveBack}
use Rattle.message_types.specs.declared.giving.Ends.{Ends as EndsOf}
use Rattle.message_types.specs.declared.giving.Give.{Give}
use Rattle.message_types.specs.declared.message.Body.{Body}
use Rattle.message_types.specs.declared.message.Body.TheVariants.{GiveBack}
use Rattle.message_types.specs.declared.message.Message.{Message}
use Rattle.script_lines.specs.declared.script.Script.{Script}
use Rattle.tree_laws.specs.Parts.{Cell, Part, Seen, cell_at}
use Rattle.run_rules.specs.Doings.{doings_of}
use Rattle.run_rules.specs.Kept.{filesets_kept, filesets_through, pieces_in, takes_gifts}
use Rattle.run_rules.specs.Messages.{Stay, home}
use Rattle.run_rules.specs.Past.{In}
use Rattle.run_rules.specs.Runs.{StepMeets, StepsMeet, call_entry, entries_in}
use Rattle.run_rules.specs.ServerDecides.{by_cause, ended_by, is_decision, span_of, stored_of}
use Rattle.run_rules.specs.Steps.{steps_of_server}
use Rattle.run_rules.specs.declared.applied.Applied.TheVariants.{IsDown, Replied, Stored}
use Rattle.run_history.specs.Agreement.{AreHome, CausedCells, CellsAgree, DownsForget, LeadsTo, StoresLegally}
use Rattle.run_history.specs.Changes.{are_home, is_home}
use Rattle.run_history.proofs.Causes.{CauseIs, cause_is}
use Rattle.run_history.proofs.Causes.CauseIs.{AppliesNone, Downs, Gives}
use Rattle.run_history.proofs.Decisions.{Amid}
use Rattle.run_history.proofs.Keeping.{same_keeps, still_home, still_keeps}
use Rattle.run_history.proofs.PastStoring.{keeps_given, stored_home, stored_others, stored_rest}
use Rattle.run_history.specs.PastStanding.{KeepsAs}
use Rattle.run_parts.specs.Cells.{Does, cell_after}
use Rattle.run_parts.specs.Cells.Does.{Nothing}
use Rattle.run_parts.specs.Contents.{Contents, site}
use Rattle.run_parts.specs.Legal.{Cells, tree}
use Rattle.run_contents.proofs.Bodies.{server_is}
use Rattle.run_contents.proofs.Sound.{said_sound}
use Rattle.run_contents.specs.Doing.{does_first}
use Rattle.run_contents.specs.Gives.{IsKept}
use Rattle.run_rules.specs.declared.applied.Answer.{Answer}
use Rattle.run_rules.specs.declared.applied.Applied.{Applied}
use Rattle.run_rules.specs.declared.step.Cause.TheVariants.{Message as Came}
use Rattle.run_tokens.proofs.TokenRun.{stays_put}
use Rattle.run_tokens.proofs.Words.{made_at}
use Rattle.run_rules.specs.declared.step.Step.{Step}

-- as a statement on each fileset
pub at_homes : (t : Tree) → are_home t ≡ true → AreHome t
at_homes t homes fileset i = all_in t.filesets homes i
  where
    all_in : (xs : List Fileset) → list_all is_home xs ≡ true → In fileset xs → fileset.server ≡ home fileset.id
    all_in [] e i = elim i [ ]
    all_in (y ∷ ys) e (inl q) =
        server_is fileset.server (home fileset.id)
        (ap is_home q ∙ (and_parts (is_home y) (list_all is_home ys) e).0)
    all_in (y ∷ ys) e (inr i) = all_in ys (and_parts (is_home y) (list_all is_home ys) e).1 i

-- the call that a give-back ends
end_alone : (call : Call) → IsEnd call
    → (changes_nothing call ≡ true) × (is_answered_alone call ≡ true) × (keeps_limit call ≡ true)
end_alone (Unlock label) e = (refl, refl, refl)
end_alone (CloseFile label) e = (refl, refl, refl)
end_alone _ e = elim e [ ]

pub not_here : (v : ServerId) (f : Fid) → (site f ≡ v → ⊥) → (v.0 == (site f).0) ≡ false
not_here v f other = go (v.0 == (site f).0) refl
  where
    go : (b : Bool) → (v.0 == (site f).0) ≡ b → (v.0 == (site f).0) ≡ false
    go false e = e
    go true e = absurd (other (sym (server_is v (site f) e)))

-- a server's step, and the tree before it
module _ (script : Script) (start : Tree) (firsts : ServerId → ℕ) (c : Contents) (past : List Step)
    (run : StepsMeet script start firsts past) (v : ServerId) (s : Step)
    (m : StepMeets script start firsts (Server v) past s) (node : s.node ≡ Server v) where
  abbrev K : Tree
  K = filesets_kept start v (steps_of_server v past)

  abbrev caused : Tree
  caused = filesets_through s.cause (by_cause s.applied) K

  abbrev cells_then : Cells
  cells_then = CausedCells v K s (tree c past)

  abbrev On : Tree → Cells → Tree → Tree → Type 0
  On kept_is cells old t = Amid script start c past v kept_is cells old t

  -- parts of other servers' files stay
  pub cells_apart : (f : Fid) (p : Part) → (site f ≡ v → ⊥) → cells_then f p ≡ tree c past f p
  cells_apart f p other =
      ap (λ (z : Bool). if z
      then cell_after p (does_first s.cause K (by_cause s.applied) f p) (tree c past f p) else tree c past f p)
      (not_here v f other)

  -- nothing is stored or lost
  same_both : {X : Type 0} (z : Bool) (x : X) → (if z then x else x) ≡ x
  same_both true x = refl
  same_both false x = refl

  pub cells_still : (xs : List Applied) → by_cause s.applied ≡ xs
      → ((f : Fid) (p : Part) → does_first s.cause K xs f p ≡ (let none : Does (Seen p) = Nothing in none))
      → (f : Fid) (p : Part) → cells_then f p ≡ tree c past f p
  cells_still xs e none f p =
      ap (λ (ys : List Applied). if v.0 == (site f).0
      then cell_after p (does_first s.cause K ys f p) (tree c past f p) else tree c past f p) e
      ∙ (ap (λ (d : Does (Seen p)). if v.0 == (site f).0 then cell_after p d (tree c past f p) else tree c past f p)
      (none f p)
      ∙ same_both (v.0 == (site f).0) (tree c past f p))

  -- what is so before the step
  pub record Before (t : Tree) : Type 0 where
    pub formed : IsWellFormed t
    pub roster_is : t.roster ≡ script.roster
    pub unmoved : t.away ≡ []
    pub homes : are_home t ≡ true
    pub keeps : (w : ServerId) → KeepsAs w (filesets_kept start w (steps_of_server w past)) t
    pub cells : CellsAgree c past t

  -- what is known of the step
  pub record Known : Type 0 where
    pub stores : StoresLegally start c past s
    pub downs : DownsForget start c past s
    -- what is kept of the parts after the cause is what the server keeps then
    pub kept_then : (f : Fid) (p : Part) → site f ≡ v → (cells_then f p).kept ≡ kept_view caused f p
    pub keeps_well : IsKept K

  module _ (t : Tree) (b : Before t) (k : Known) where
    -- an entry that leaves all that is kept
    left_kept : (kept_is : Tree) (cells : Cells) (old now next : Tree) (entry : Entry) → On kept_is cells old now
        → next ≡ after_entry now entry → KeepsAll now next → IsWellFormed next
        → ((f : Fid) (p : Part) → cell_at next f p ≡ cell_at now f p) → On kept_is cells old next
    left_kept kept_is cells old now next entry a is all formed same = record {
      formed = formed;
      roster_is = all.roster ∙ a.roster_is;
      unmoved = all.away ∙ a.unmoved;
      homes = still_home now next all a.homes;
      keeps = still_keeps v kept_is now next all a.keeps;
      others = λ w other. still_keeps w (filesets_kept start w (steps_of_server w past)) now next all (a.others w other);
      cells_here = λ f p at. same f p ∙ a.cells_here f p at;
      cells_else = λ f p other. same f p ∙ a.cells_else f p other;
      leads = λ server name id q. (let l = a.leads server name id q in
          let r = names_lead_on now entry server name l.0 a.formed l.1 in
          subst (λ (z : Tree). LeadsTo z server name id) (sym is) (r.0, r.1, r.2 ∙ l.2));
    }

    -- the call that a give-back ends
    ended : (kept_is : Tree) (cells : Cells) (old now : Tree) (a : Answer) → On kept_is cells old now → IsEnd a.call
        → On kept_is cells old (answer_to now a.host a.call).tree
    ended kept_is cells old now a on end =
        let q = end_alone a.call end in
        let same : (f : Fid) (p : Part) → cell_at (answer_to now a.host a.call).tree f p ≡ cell_at now f p =
        λ f p. answers_leave_all now a.host a.call f p on.formed q.0 in
        left_kept kept_is cells old now (answer_to now a.host a.call).tree (call_entry a) on refl
        (calls_keep_all now a.host a.call on.formed q.1 (λ f p. ap (λ (z : Cell (Seen p)). z.kept) (same f p)))
        (formed_answer now a.host a.call on.formed q.2) same

    on_still : (xs : List Applied) → by_cause s.applied ≡ xs
        → ((f : Fid) (p : Part) → does_first s.cause K xs f p ≡ (let none : Does (Seen p) = Nothing in none))
        → On K cells_then t t
    on_still xs e none = record {
      formed = b.formed;
      roster_is = b.roster_is;
      unmoved = b.unmoved;
      homes = b.homes;
      keeps = b.keeps v;
      others = λ w other. b.keeps w;
      cells_here = λ f p at. b.cells f p ∙ sym (cells_still xs e none f p);
      cells_else = λ f p other. b.cells f p;
      leads = λ server name id q. q;
    }

    -- what the cause leaves
    abbrev Leaves : List Applied → Type 0
    Leaves xs =
        IsHistory t (flat_map (entries_in v) xs)
        × On (filesets_through s.cause xs K) cells_then t (after_history t (flat_map (entries_in v) xs))

    in_by : (xs : List Applied) (x : Applied) → In x (by_cause xs) → In x xs
    in_by [] x i = i
    in_by (y ∷ ys) x i = go (is_decision y) (λ j. in_by ys x j) i
      where
        go : (z : Bool) → (In x (by_cause ys) → In x ys) → In x (if z then [] else y ∷ by_cause ys) → In x (y ∷ ys)
        go true rest j = elim j [ ]
        go false rest (inl q) = inl q
        go false rest (inr j) = inr (rest j)

    -- a Down
    leaves_down : (h : HostId) → by_cause s.applied ≡ IsDown h ∷ [] → Leaves (IsDown h ∷ [])
    leaves_down h e =
        let i : In (IsDown h) s.applied = in_by s.applied (IsDown h) (subst (In (IsDown h)) (sym e) (inl refl)) in
        let cells : (f : Fid) (p : Part) → cell_at (after_entry t (DownEntry h v)) f p ≡ cells_then f p =
        k.downs v t node b.formed (at_homes t b.homes) b.cells h i in
        let all = downs_keep_all t h v in (
          (tt, tt),
          record {
            formed = formed_entry t (DownEntry h v) b.formed tt refl;
            roster_is = all.roster ∙ b.roster_is;
            unmoved = all.away ∙ b.unmoved;
            homes = still_home t (after_entry t (DownEntry h v)) all b.homes;
            keeps = still_keeps v K t (after_entry t (DownEntry h v)) all (b.keeps v);
            others = λ w other. still_keeps w (filesets_kept start w (steps_of_server w past)) t (after_entry t (DownEntry h v)) all
                (b.keeps w);
            cells_here = λ f p at. cells f p;
            cells_else = λ f p other. cells f p ∙ cells_apart f p other;
            leads = λ server name id q. (let r = names_lead_on t (DownEntry h v) server name q.0 b.formed q.1 in
                (r.0, r.1, r.2 ∙ q.2));
          },
        )

    -- a give-back
    module _ (x : Message) (g : Give) (cause : s.cause ≡ Came x) (body : x.body ≡ GiveBack g)
        (home_is : home g.fid.fileset ≡ v)
        (ends_legal : (now : Tree) → now.roster ≡ script.roster → now.locks ≡ t.locks → now.opens ≡ t.opens
        → (a : Answer)
        → In (Replied a) s.applied → IsLegal now (call_entry a)) where
      abbrev the_end : EndsOf → Answer
      the_end ends = record { host = x.host; k = ends.k; call = ends.call; reply = Fine; first = false }

      sound : IsGiveBack script.roster
          (said_sound script start firsts x.host v x.epoch x.moves x.body past run (m.1 x cause).2).message g
      sound =
          let y = said_sound script start firsts x.host v x.epoch x.moves x.body past run (m.1 x cause).2 in
          subst (λ (z : Body). IsBody script.roster y.message z) (y.body ∙ body) y.sound.body

      is_end : (ends : EndsOf) → g.ends ≡ Some ends → IsEnd ends.call
      is_end ends e = subst (λ (o : Option EndsOf). IfSome o (λ (z : EndsOf). IsEnd z.call)) e sound.ends

      abbrev store : Applied
      store = Stored x.host g.fid (map span_of g.pieces) g.length

      abbrev entry : Entry
      entry = StoredEntry x.host g.fid (map span_of g.pieces) g.length

      abbrev stored_t : Tree
      stored_t = after_entry t entry

      abbrev given_K : Tree
      given_K = filesets_through s.cause (store ∷ []) K

      -- with something stored
      module _ (rest : List Applied) (e : by_cause s.applied ≡ store ∷ rest) (takes : takes_gifts K g.fid ≡ true)
          (kept_rest : filesets_through s.cause rest given_K ≡ given_K) where
        i : In store s.applied
        i = in_by s.applied store (subst (In store) (sym e) (inl refl))

        its : IsLegal t entry × ((f : Fid) (p : Part) → cell_at stored_t f p ≡ cells_then f p)
        its = k.stores v t node b.formed b.cells x.host g.fid (map span_of g.pieces) g.length i

        caused_is : caused ≡ given_K
        caused_is = ap (λ (xs : List Applied). filesets_through s.cause xs K) e ∙ kept_rest

        seen : (p : Part) → kept_view given_K g.fid p ≡ (cell_at stored_t g.fid p).kept
        seen p =
            ap (λ (z : Tree). kept_view z g.fid p) (sym caused_is)
            ∙ (sym (k.kept_then g.fid p home_is) ∙ ap (λ (z : Cell (Seen p)). z.kept) (sym (its.1 g.fid p)))

        stored_on : On given_K cells_then t stored_t
        stored_on =
            let left = stored_rest t x.host g.fid (map span_of g.pieces) g.length in
            record {
              formed = formed_entry t entry b.formed its.0 refl;
              roster_is = left.0 ∙ b.roster_is;
              unmoved = left.1 ∙ b.unmoved;
              homes = stored_home v K t (b.keeps v) b.unmoved b.formed.ordered k.keeps_well.formed.ordered x.host g.fid
                  (map span_of g.pieces) g.length (pieces_in s.cause) takes b.homes;
              keeps = keeps_given v K t (b.keeps v) b.unmoved b.formed.ordered k.keeps_well.formed.ordered x.host g.fid
                  (map span_of g.pieces) g.length (pieces_in s.cause) takes seen;
              others = λ w other. same_keeps w (filesets_kept start w (steps_of_server w past)) t stored_t
                  (stored_others w t x.host g.fid (map span_of g.pieces) g.length (λ q. other (sym q ∙ home_is))
                  b.formed.ordered b.homes b.unmoved) (b.keeps w);
              cells_here = λ f p at. its.1 f p;
              cells_else = λ f p other. its.1 f p ∙ cells_apart f p other;
              leads = λ server name id q. (let r = names_lead_on t entry server name q.0 b.formed q.1 in
                  (r.0, r.1, r.2 ∙ q.2));
            }

        stored_ends : (ends : EndsOf) → g.ends ≡ Some ends → In (Replied (the_end ends)) rest
            → IsLegal stored_t (call_entry (the_end ends))
            × On given_K cells_then t (after_entry stored_t (call_entry (the_end ends)))
        stored_ends ends q j =
            let left = stored_rest t x.host g.fid (map span_of g.pieces) g.length in
            let l : In (Replied (the_end ends)) s.applied =
            in_by s.applied (Replied (the_end ends)) (subst (In (Replied (the_end ends))) (sym e) (inr j)) in (
              ends_legal stored_t (left.0 ∙ b.roster_is) left.3 left.4 (the_end ends) l,
              ended given_K cells_then t stored_t (the_end ends) stored_on (is_end ends q),
            )

      leaves_stored : takes_gifts K g.fid ≡ true → (o : Option EndsOf) → g.ends ≡ o
          → by_cause s.applied ≡ store ∷ option_map_or (λ ends. Replied (the_end ends) ∷ []) o []
          → Leaves (store ∷ option_map_or (λ ends. Replied (the_end ends) ∷ []) o [])
      leaves_stored takes None q e =
          (((its [] e takes refl).0, tt), stored_on [] e takes refl)
      leaves_stored takes (Some ends) q e =
          let r = stored_ends (Replied (the_end ends) ∷ []) e takes refl ends q (inl refl) in
          (((its (Replied (the_end ends) ∷ []) e takes refl).0, (r.0, tt)), r.1)

      leaves_ended : (o : Option EndsOf) → g.ends ≡ o
          → by_cause s.applied ≡ option_map_or (λ ends. Replied (the_end ends) ∷ []) o []
          → Leaves (option_map_or (λ ends. Replied (the_end ends) ∷ []) o [])
      leaves_ended None q e = (tt, on_still [] e (λ f p. refl))
      leaves_ended (Some ends) q e =
          let l : In (Replied (the_end ends)) s.applied =
          in_by s.applied (Replied (the_end ends)) (subst (In (Replied (the_end ends))) (sym e) (inl refl)) in (
            (ends_legal t b.roster_is refl refl (the_end ends) l, tt),
            ended K cells_then t t (the_end ends) (on_still (Replied (the_end ends) ∷ []) e (λ f p. refl)) (is_end ends q),
          )

      leaves_given : by_cause s.applied ≡ stored_of K x.host g ++ ended_by x.host g → Leaves (by_cause s.applied)
      leaves_given e =
          go (takes_gifts K g.fid && (nat_lt 0 (length g.pieces) || is_some g.length)) refl e
        where
          go : (z : Bool) → (takes_gifts K g.fid && (nat_lt 0 (length g.pieces) || is_some g.length)) ≡ z
              → by_cause s.applied ≡ (if z then store ∷ [] else []) ++ ended_by x.host g → Leaves (by_cause s.applied)
          go true q e =
              subst Leaves (sym e)
              (leaves_stored (and_parts (takes_gifts K g.fid) (nat_lt 0
              (length g.pieces) || is_some g.length) q).0 g.ends
              refl e)
          go false q e = subst Leaves (sym e) (leaves_ended g.ends refl e)

    pub leaves_caused : ((now : Tree) → now.roster ≡ script.roster → now.locks ≡ t.locks → now.opens ≡ t.opens
        → (a : Answer) → In (Replied a) s.applied → IsLegal now (call_entry a))
        → Leaves (by_cause s.applied)
    leaves_caused ends_legal = by (cause_is v (doings_of (firsts v) v past) K s m.0.works.applies)
      where
        by : CauseIs v (doings_of (firsts v) v past) K s → Leaves (by_cause s.applied)
        by (Gives x g cause body first e) =
            leaves_given x g cause body
            (made_at v (doings_of (firsts v) v past) g.fid.fileset first.0.0 (stays_put script start firsts past run v)
            first.0.2) ends_legal e
        by (Downs h e) = subst Leaves (sym e) (leaves_down h e)
        by (AppliesNone e) = subst Leaves (sym e) (tt, on_still [] e (λ f p. refl))
