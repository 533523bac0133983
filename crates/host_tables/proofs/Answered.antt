-- A call that is answered from the tables is answered as the rules ask.
use Rattle.run_rules.specs.Tokens.{GivesUse}
use Rattle.message_types.specs.declared.giving.Give.{Give}
use Rattle.run_rules.specs.Tokens.{Makes}
use Rattle.run_rules.specs.Views.{IsDirtyUnder}
use Rattle.run_rules.specs.Views.{FindsFile}
use Rattle.std.proofs.Common.{[]}
use Rattle.base_types.specs.Name.{same_name}
use Rattle.base_types.specs.Outcomes.{either}
use Rattle.base_types.specs.declared.ids.Fid.{Fid}
use Rattle.base_types.specs.declared.ids.FilesetId.{FilesetId}
use Rattle.base_types.specs.declared.ids.HostId.{HostId}
use Rattle.base_types.specs.declared.ids.OpenKind.{OpenKind}
use Rattle.base_types.specs.declared.span.Span.{Span}
use Rattle.base_types.specs.declared.user.User.{User}
use Rattle.host_tables.proofs.Lists.{any_in, by_test, name_same, none_in}
use Rattle.host_tables.specs.Answering.{AnswersCall, BegunBy, TakesLabel, wrote_by}
use Rattle.host_tables.specs.Half.{half}
use Rattle.host_tables.specs.Stands.{CanReply, IsCoveredFrom, IsLack, Stands, look_from, verdict_from}
use Rattle.host_tables.specs.Tables.{content, held_of, own_of}
use Rattle.host_tables.specs.declared.tables.Tables.{Tables}
use Rattle.need_host.proofs.Looking.{covered_alike, lack_alike, outcome_alike, outcome_on}
use Rattle.need_host.proofs.Showing.{shown_agree}
use Rattle.need_host.specs.Calls.{Own, Verdict, call_look, from_root, judged, refuse, reply_now, sync_look}
use Rattle.need_host.specs.Calls.{sync_verdict}
use Rattle.need_host.specs.Calls.Verdict.{Asks, Frees, Gives, Locks, Opens, Replies, Writes}
use Rattle.need_host.specs.Laws.{AgreeUnder}
use Rattle.need_host.specs.Looks.{IsCovered, IsFirstLack, Look, View, needs_of, outcome}
use Rattle.need_host.specs.Looks.Look.{Ends}
use Rattle.need_host.specs.Walks.{file_look, root_of}
use Rattle.run_rules.specs.HostMay.{CanAnswer, HostAnswers, IsExact}
use Rattle.run_rules.specs.Messages.{stay_of}
use Rattle.run_rules.specs.Past.{In}
use Rattle.run_rules.specs.Tokens.{AtHand, CallGoesOn, FreesPinned, HasCall, Held as HeldBy, IsUseKind, LabelInUse}
use Rattle.run_rules.specs.Tokens.{end_call, end_of}
use Rattle.run_rules.specs.Views.{Stance, sees}
use Rattle.run_rules.specs.declared.applied.Answer.{Answer as AnswerOf}
use Rattle.run_rules.specs.declared.step.Labelled.{Labelled}
use Rattle.run_rules.specs.declared.step.Step.{Step}
use Rattle.script_lines.specs.declared.script.Script.{Script}
use Rattle.std.proofs.Common.{Bool, List, None, Ok, Option, Result, Some, ap, arith, false, if◌then◌else◌, inl}
use Rattle.std.proofs.Common.{inr, length, not, refl, subst, sym, true, ℕ, ◌==◌, ◌∙◌, ◌∷◌, ◌≡◌, ◌⊎◌}
use Rattle.std.proofs.lemmas.Bool.{and_from, eq-eqb}
use Rattle.token_types.specs.declared.token.Kind.{Kind}
use Rattle.token_types.specs.declared.token.Kind.TheVariants.{Bytes, Lock as LockToken, Opening, Status}
use Rattle.token_types.specs.declared.token.Need.{Need}
use Rattle.token_types.specs.declared.token.Token.{Token}
use Rattle.tree_answers.specs.Locks.{has_lock}
use Rattle.tree_answers.specs.Opens.{has_open}
use Rattle.tree_answers.specs.Uses.{is_under, lock_hold, open_hold}
use Rattle.tree_answers.specs.declared.tree.LockUse.{LockUse}
use Rattle.tree_answers.specs.declared.tree.OpenUse.{OpenUse}
use Rattle.tree_calls.specs.declared.call.Call.{Call}
use Rattle.tree_calls.specs.declared.call.Call.TheVariants.{CloseFile, Sync, Unlock}
use Rattle.tree_calls.specs.declared.place.Place.{Place as NamedPlace}
use Rattle.tree_calls.specs.declared.reply.Refusal.{Refusal}
use Rattle.tree_calls.specs.declared.reply.Refusal.TheVariants.{NotLocked, NotOpened}
use Rattle.tree_calls.specs.declared.reply.Reply.{Reply}
use Rattle.tree_calls.specs.declared.reply.Reply.TheVariants.{Ok as Fine, Refused}
use Rattle.tree_laws.specs.Parts.{Nature}
use Rattle.host_tables.proofs.Standing as standing

outcome_judged : {A : Type 0} (view : View) (look : Look (Result A Refusal)) (judge : A → Verdict) →
    outcome view (judged look judge) ≡ either (outcome view look) judge (λ refusal. Replies (Refused refusal))
outcome_judged view look judge =
    outcome_on view look (λ seen. Ends (either seen judge (λ refusal. Replies (Refused refusal))))

abbrev Sight : Own → User → List (List ℕ) → Fid → Look Verdict
Sight own user path root = judged (file_look user root path) (sync_verdict own)

-- a Sync that is answered found its file clean
synced_clean : (own : Own) (host : HostId) (user : User) (view : View) (stay_of : NamedPlace) (id : FilesetId)
    (fid : Fid) (nature : Nature) (reply : Reply)
    → own.seen stay_of.server stay_of.fileset ≡ Some id → outcome view (file_look user (root_of id) stay_of.path)
    ≡ Ok (fid, nature)
    → reply_now (outcome view (call_look own host user (Sync stay_of))) ≡ Some reply → own.is_clean fid ≡ true
unfolding call_look sync_look
synced_clean own host user view stay_of id fid nature reply seen found settled =
    elim (by_test (own.is_clean fid)) [
      | inl e ↦ e
      | inr e ↦ absurd (let p = sym (ap (λ (b : Bool). reply_now (if b then Replies Fine else Gives)) e)
          ∙ (sym (ap reply_now verdict) ∙ settled) in cc)
    ]
  where
    verdict : outcome view (from_root stay_of.server (own.seen stay_of.server stay_of.fileset)
        (Sight own user stay_of.path)) ≡ sync_verdict own (fid, nature)
    verdict =
        ap (λ (o : Option FilesetId). outcome view (from_root stay_of.server o (Sight own user stay_of.path))) seen
        ∙ (outcome_judged view (file_look user (root_of id) stay_of.path) (sync_verdict own)
        ∙ ap (λ (f : Result (Fid × Nature) Refusal). either f (sync_verdict own) (λ refusal. Replies (Refused refusal)))
        found)

-- the end of a label that the server has to take isn't answered by the host
unlock_gives : (own : Own) (host : HostId) (user : User) (view : View) (label : List ℕ) (reply : Reply)
    → has_lock own.locks host label ≡ true
    → own.gives_lock label ≡ true → reply_now (outcome view (call_look own host user (Unlock label))) ≡ Some reply → ⊥
unfolding call_look
unlock_gives own host user view label reply has gives settled =
    let p : reply_now (outcome view (if not (has_lock own.locks host label) then refuse NotLocked
    else Ends (if own.gives_lock label then Gives else Frees))) ≡ None =
    ap (λ (b : Bool). reply_now (outcome view (if not b then refuse NotLocked else Ends (if own.gives_lock label
    then Gives else Frees)))) has
    ∙ ap (λ (b : Bool). reply_now (if b then Gives else Frees)) gives in
    let q = sym p ∙ settled in absurd (cc)

close_gives : (own : Own) (host : HostId) (user : User) (view : View) (label : List ℕ) (reply : Reply)
    → has_open own.opens host label ≡ true
    → own.gives_open label ≡ true → reply_now (outcome view (call_look own host user (CloseFile label))) ≡ Some reply
    → ⊥
unfolding call_look
close_gives own host user view label reply has gives settled =
    let p : reply_now (outcome view (if not (has_open own.opens host label) then refuse NotOpened
    else Ends (if own.gives_open label then Gives else Frees))) ≡ None =
    ap (λ (b : Bool). reply_now (outcome view (if not b then refuse NotOpened else Ends (if own.gives_open label
    then Gives else Frees)))) has
    ∙ ap (λ (b : Bool). reply_now (if b then Gives else Frees)) gives in
    let q = sym p ∙ settled in absurd (cc)

module _ (script : Script) (m : Tables) (past : List Step) (s : Step) (stands : Stands script m (half s ∷ past)) where
  -- what the cache shows is what the host sees under its tokens
  pub agree : AgreeUnder (held_of m) (content m.cache) (sees past s)
  agree = shown_agree (held_of m) (content m.cache) (sees past s) stands.contents.agrees stands.contents.beyond

  pub agree_back : AgreeUnder (held_of m) (sees past s) (content m.cache)
  agree_back fid part c = sym (agree fid part c)

  pub covered_there : (call : Call) → IsCoveredFrom m call → IsCovered (held_of m) (sees past s) (look_from m call)
  covered_there call c = covered_alike (held_of m) (content m.cache) (sees past s) agree (look_from m call) c

  pub covered_here : (call : Call) → IsCovered (held_of m) (sees past s) (look_from m call) → IsCoveredFrom m call
  covered_here call c = covered_alike (held_of m) (sees past s) (content m.cache) agree_back (look_from m call) c

  pub verdict_is : (call : Call) → IsCoveredFrom m call → verdict_from m call ≡ outcome (sees past s) (look_from m call)
  verdict_is call c = outcome_alike (held_of m) (content m.cache) (sees past s) agree (look_from m call) c

  pub lack_there : (call : Call) (need : Need) → IsLack m call need
      → IsFirstLack (held_of m) (needs_of (sees past s) (look_from m call)) need
  lack_there call need l = lack_alike (held_of m) (content m.cache) (sees past s) agree (look_from m call) need l

  pub lack_here : (call : Call) (need : Need) → IsFirstLack (held_of m) (needs_of (sees past s) (look_from m call)) need
      → IsLack m call need
  lack_here call need l = lack_alike (held_of m) (sees past s) (content m.cache) agree_back (look_from m call) need l

  module _ (kept : List Token) (keeps : (t : Token) → In t kept → HeldBy (s ∷ past) t) (cached : (t : Token)
      → HeldBy (s ∷ past) t → In t kept) where
    abbrev pub its : Stance script.roster m.host past s
    its = standing.stance script m past s stands kept keeps cached

    pub can_here : (call : Call) (reply : Reply) → CanAnswer script.roster m.host past s its call reply
        → CanReply m call
    can_here call reply can =
        let c = covered_here call can.covered in record {
          covered = c;
          reply = reply;
          settled = ap reply_now (verdict_is call c) ∙ can.settled;
        }

    pub can_there : (call : Call) (can : CanReply m call) → CanAnswer script.roster m.host past s its call can.reply
    can_there call can = record {
      covered = covered_there call can.covered;
      settled = sym (ap reply_now (verdict_is call can.covered)) ∙ can.settled;
    }

    -- what a call needs isn't met where a label's end goes to the server
    has_locked : (u : Labelled) (writing : Bool) (span : Span) → LabelInUse past u → u.token.kind
        ≡ LockToken writing span → has_lock (own_of m).locks m.host u.label ≡ true
    has_locked u writing span used k =
        let lock : LockUse = record {
          host = m.host;
          label = u.label;
          fid = u.token.fid;
          writing = writing;
          span = span;
        } in
        any_in (is_under lock_hold m.host u.label) (own_of m).locks lock
        ((its.knows.locks lock).1 (u, inl used, (refl, refl, refl, k)))
        (and_from (m.host.0 == m.host.0) (same_name u.label u.label) (eq-eqb m.host.0 m.host.0 refl)
        (name_same u.label))

    has_opened : (u : Labelled) (kind : OpenKind) → LabelInUse past u → u.token.kind ≡ Opening kind
        → has_open (own_of m).opens m.host u.label ≡ true
    has_opened u kind used k =
        let opened : OpenUse = record { host = m.host; label = u.label; fid = u.token.fid; kind = kind } in
        any_in (is_under open_hold m.host u.label) (own_of m).opens opened
        ((its.knows.opens opened).1 (u, inl used, (refl, refl, refl, k)))
        (and_from (m.host.0 == m.host.0) (same_name u.label u.label) (eq-eqb m.host.0 m.host.0 refl)
        (name_same u.label))

    pub freed_not : (u : Labelled) → FreesPinned past u → CanReply m (end_of u) → ⊥
    freed_not u f can = go u.token.kind refl (stands.uses.kinds u (standing.used_after script m past s stands u f.0.0))
      where
        settles : (call : Call) → end_of u ≡ call → reply_now (verdict_from m call) ≡ Some can.reply
        settles call e = ap (λ (c : Call). reply_now (verdict_from m c)) (sym e) ∙ can.settled

        go : (k : Kind) → u.token.kind ≡ k → IsUseKind k → ⊥
        go (Bytes update span) e k = absurd k
        go (Status update) e k = absurd k
        go (LockToken writing span) e k =
            unlock_gives (own_of m) m.host m.user (content m.cache) u.label can.reply
            (has_locked u writing span f.0.0 e)
            ((its.knows.gives_lock u.label).1 (
              record {
                host = m.host;
                label = u.label;
                fid = u.token.fid;
                writing = writing;
                span = span;
              },
              u,
              refl,
              (refl, refl, refl, e),
              inl f,
            ))
            (settles (Unlock u.label) (ap (λ (k : Kind). end_call k u.label) e))
        go (Opening kind) e k =
            close_gives (own_of m) m.host m.user (content m.cache) u.label can.reply (has_opened u kind f.0.0 e)
            ((its.knows.gives_open u.label).1 (
              record {
                host = m.host;
                label = u.label;
                fid = u.token.fid;
                kind = kind;
              },
              u,
              refl,
              (refl, refl, refl, e),
              inl f,
            ))
            (settles (CloseFile u.label) (ap (λ (k : Kind). end_call k u.label) e))

    module _ (k : ℕ) (call : Call) (first : Bool) (so : AnswersCall m past s k call first) where
      abbrev answer : AnswerOf
      answer = record { host = m.host; k = k; call = call; reply = so.can.reply; first = first }

      is : (a : AnswerOf) → In a s.answers → a ≡ answer
      is a i = elim (subst (In a) so.answers i) [ inl e ↦ e | inr e ↦ elim e [ ] ]

      it : In answer s.answers
      it = subst (In answer) (sym so.answers) (inl refl)

      verdict : verdict_from m call ≡ outcome (sees past s) (look_from m call)
      verdict = verdict_is call so.can.covered

      verdict_of : (a : AnswerOf) (v : Verdict) → In a s.answers → outcome (sees past s) (look_from m a.call) ≡ v
          → verdict_from m call ≡ v
      verdict_of a v i e = verdict ∙ (ap (λ (x : AnswerOf). outcome (sees past s) (look_from m x.call)) (sym (is a i))
          ∙ e)

      fine : (v : Verdict) → verdict_from m call ≡ v → reply_now v ≡ Some Fine → so.can.reply ≡ Fine
      fine v e f = let p = sym so.can.settled ∙ (ap reply_now e ∙ f) in cc

      -- the label that is begun
      abbrev Begun : Labelled → Type 0
      Begun u = (a : AnswerOf) × In a s.answers × (a.reply ≡ Fine) × IsExact a.call u × AtHand s past u.token

      of_label : (v : Verdict) → verdict_from m call ≡ v → reply_now v ≡ Some Fine → (fid : Fid) (kind : Kind)
          → TakesLabel (held_of m) call fid kind s.begun
          → (u : Labelled) → In u s.begun → Begun u
      of_label v e f fid kind t u i =
          elim (subst (In u) t.alone i) [
            | inl p ↦ (
              answer,
              it,
              fine v e f,
              subst (IsExact call) (sym p) t.exact,
              subst (λ (x : Labelled). AtHand s past x.token) (sym p)
                  (standing.hand_of script m past s stands t.label.token t.is_held),
            )
            | inr p ↦ elim p [ ]
          ]

      begun_so : (v : Verdict) → verdict_from m call ≡ v → BegunBy (held_of m) call v s.begun → (u : Labelled)
          → In u s.begun → Begun u
      begun_so (Replies reply) e b u i = absurd (none_in s.begun b u i)
      begun_so (Writes fid from bytes) e b u i = absurd (none_in s.begun b u i)
      begun_so (Locks fid writing span) e b u i = of_label (Locks fid writing span) e refl fid (LockToken writing span)
          b u i
      begun_so (Opens fid kind) e b u i = of_label (Opens fid kind) e refl fid (Opening kind) b u i
      begun_so Frees e b u i = absurd (none_in s.begun b u i)
      begun_so Gives e b u i = absurd (none_in s.begun b u i)
      begun_so (Asks question) e b u i = absurd (none_in s.begun b u i)

      one_so : (v : Verdict) → BegunBy (held_of m) call v s.begun → (u w : Labelled) → In u s.begun → In w s.begun
          → u ≡ w
      one_so (Replies reply) b u w i j = absurd (none_in s.begun b u i)
      one_so (Writes fid from bytes) b u w i j = absurd (none_in s.begun b u i)
      one_so (Locks fid writing span) b u w i j = one b.label b.alone u w i j
        where
          one : (l : Labelled) → s.begun ≡ l ∷ [] → (u w : Labelled) → In u s.begun → In w s.begun → u ≡ w
          one l e u w i j = elim (subst (In u) e i) [
            | inl p ↦ elim (subst (In w) e j) [
              | inl q ↦ p ∙ sym q
              | inr q ↦ elim q [ ]
            ]
            | inr p ↦ elim p [ ]
          ]
      one_so (Opens fid kind) b u w i j = one b.label b.alone u w i j
        where
          one : (l : Labelled) → s.begun ≡ l ∷ [] → (u w : Labelled) → In u s.begun → In w s.begun → u ≡ w
          one l e u w i j = elim (subst (In u) e i) [
            | inl p ↦ elim (subst (In w) e j) [
              | inl q ↦ p ∙ sym q
              | inr q ↦ elim q [ ]
            ]
            | inr p ↦ elim p [ ]
          ]
      one_so Frees b u w i j = absurd (none_in s.begun b u i)
      one_so Gives b u w i j = absurd (none_in s.begun b u i)
      one_so (Asks question) b u w i j = absurd (none_in s.begun b u i)

      wrote_so : (v : Verdict) (fid : Fid) → wrote_by v ≡ Some fid → (from : ℕ) × (bytes : List ℕ)
          × (v ≡ Writes fid from bytes)
      wrote_so (Replies reply) fid e = absurd (cc)
      wrote_so (Writes other from bytes) fid e = (
        from,
        bytes,
        let p : other ≡ fid = cc in
            ap (λ (f : Fid). Writes f from bytes) p,
      )
      wrote_so (Locks other writing span) fid e = absurd (cc)
      wrote_so (Opens other kind) fid e = absurd (cc)
      wrote_so Frees fid e = absurd (cc)
      wrote_so Gives fid e = absurd (cc)
      wrote_so (Asks question) fid e = absurd (cc)

      pub answers : HostAnswers script.roster m.host past s its
      answers = record {
        answers = λ a i. subst (λ (x : AnswerOf). (x.host ≡ m.host) × HasCall past s x.k x.call
            × CanAnswer script.roster m.host past s its x.call x.reply) (sym (is a i)) (
              refl,
              so.turn,
              can_there call so.can,
            );
        answers_all = λ n other reply t c. (answer, it, sym (so.only n other t).0);
        first = λ a i. subst (λ (x : AnswerOf). (x.first ≡ true) ⊎ ((x.first ≡ false) × CallGoesOn past s x.k x.call))
            (sym (is a i)) (elim (by_test first) [ inl e ↦ inl e | inr e ↦ inr (e, so.goes_on e) ]);
        asked = λ a c i e. let p = sym so.asked ∙ e in absurd (cc);
        answers_one = let e = ap (λ (l : List AnswerOf). length l) so.answers in omega (arith, e);
        answers_alone = λ a fs n i. so.none_asked fs n;
        answers_settled = λ a v fs n i. so.none_changing v fs n;
        keeps = λ a i. (so.dropped, so.made);
        quiet = λ a i e. so.begins (sym (ap (λ (x : AnswerOf). x.first) (is a i)) ∙ e);
        writes = λ a fid from bytes i e. so.wrote ∙ ap wrote_by (verdict_of a (Writes fid from bytes) i e);
        writes_only = λ fid e. let r = wrote_so (verdict_from m call) fid (sym so.wrote ∙ e) in
            (answer, r.0, r.1, it, sym verdict ∙ r.2);
        locks = λ a fid writing span i e.
            let v = verdict_of a (Locks fid writing span) i e in
            let t = subst (λ (v : Verdict). BegunBy (held_of m) call v s.begun) v so.begun in (
              t.label,
              subst (In t.label) (sym t.alone) (inl refl),
              subst (λ (x : AnswerOf). IsExact x.call t.label)
                  (sym (is a i)) t.exact,
              t.file,
              t.kind_is,
            );
        opens = λ a fid kind i e.
            let v = verdict_of a (Opens fid kind) i e in
            let t = subst (λ (v : Verdict). BegunBy (held_of m) call v s.begun) v so.begun in (
              t.label,
              subst (In t.label) (sym t.alone) (inl refl),
              subst (λ (x : AnswerOf). IsExact x.call t.label)
                  (sym (is a i)) t.exact,
              t.file,
            );
        begins = λ u i. begun_so (verdict_from m call) refl so.begun u i;
        begins_one = λ u w i j. one_so (verdict_from m call) so.begun u w i j;
      }

      -- what is due of the call
      pub syncs : (n : ℕ) (stay_of : NamedPlace) (fid : Fid) (t : Token) → HasCall past s n (Sync stay_of)
          → FindsFile its stay_of fid → AtHand s past t → t.fid ≡ fid → IsDirtyUnder past s t → Makes s t.id
      syncs n stay_of fid t turn finds h same d =
          let c = (so.only n (Sync stay_of) turn).1 in
          let clean = synced_clean (own_of m) m.host m.user (sees past s) stay_of finds.0 fid finds.1 so.can.reply
          finds.2 finds.4
          (ap (λ (x : Call). reply_now (outcome (sees past s) (look_from m x))) c
          ∙ (can_there call so.can).settled) in
          absurd (((its.knows.clean fid).0 clean).none_dirty t h same d)

      pub frees : (n : ℕ) (u : Labelled) → HasCall past s n (end_of u) → FreesPinned past u
          → (g : Give) × In g s.made × GivesUse g u
      frees n u turn f = absurd (freed_not u f (subst (CanReply m) (sym (so.only n (end_of u) turn).1) so.can))
