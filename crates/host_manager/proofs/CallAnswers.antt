-- A call whose turn it is is answered, as the code tells: the machine runs on by the step.
use Rattle.base_types.specs.declared.ids.Fid.{Fid}
use Rattle.base_types.specs.declared.ids.FilesetId.{FilesetId}
use Rattle.base_types.specs.declared.ids.HostId.{HostId}
use Rattle.base_types.specs.declared.ids.Node.TheVariants.{Host}
use Rattle.host_cache.specs.Holding.{tokens_of}
use Rattle.host_cache.specs.Seen.{Kept, Seen, after_length, after_write, seen}
use Rattle.host_cache.specs.declared.held.Held.{Held}
use Rattle.host_calls.specs.Answering.{Answered, BeginsUse, ChangesOwn, FreesUse, WritesBytes, changes_nothing}
use Rattle.host_calls.specs.Answering.ChangesOwn.{FreesIt, KeepsAll, UsesIt, WritesIt}
use Rattle.host_calls.specs.Looking.{AreUses, UsesKind, WritesTo, access_of, bytes_of, facts_of, meant, meant_by}
use Rattle.host_calls.specs.Looking.{of_seen, taken_label, used_by}
use Rattle.host_calls.specs.declared.looking.Verdict.{Verdict}
use Rattle.host_calls.specs.declared.looking.Verdict.TheVariants.{Asks, Does, Frees, Gives, Lists, Reads, Shows}
use Rattle.host_calls.specs.declared.looking.Verdict.TheVariants.{Syncs, Tells, Uses, Writes}
use Rattle.host_dirty.specs.Dirtiness.{Adds}
use Rattle.host_dirty.specs.declared.dirty.Dirty.{Dirty}
use Rattle.host_gives.specs.Giving.{IsSound as IsSoundGives}
use Rattle.host_labels.specs.Labels.{IsSound as IsSoundUses, after_take, is_lock}
use Rattle.host_leaves.specs.Sending.{sending_due}
use Rattle.host_manager.proofs.Helped.{Helped}
use Rattle.host_manager.proofs.Locking.{takes_label, uses_run}
use Rattle.host_manager.proofs.Ordered.{in_used}
use Rattle.host_manager.proofs.Turns.{IsTurn, at_turn, turn_draft}
use Rattle.host_manager.proofs.Written.{IsWritten}
use Rattle.host_tables.proofs.Lists.{in_map, map_in}
use Rattle.host_tables.specs.AnswerSteps.{AnsweredBy}
use Rattle.host_tables.specs.Drafts.{step_of}
use Rattle.host_manager.specs.Running.{RunsOn}
use Rattle.host_tables.specs.Stands.{IsCoveredFrom, needs_from, verdict_from}
use Rattle.host_tables.specs.Tables.{content, held_of}
use Rattle.host_tables.specs.Using.{used_all}
use Rattle.host_tables.specs.declared.draft.Draft.{Draft}
use Rattle.host_tables.specs.declared.tables.Tables.{Tables}
use Rattle.host_walk.specs.Bytes.{bytes_seen}
use Rattle.need_host.specs.Calls.{reply_now}
use Rattle.need_host.specs.Calls.Verdict.{Replies, Writes as WritesOf}
use Rattle.run_rules.specs.Past.{In}
use Rattle.run_rules.specs.Tokens.{IsUseKind}
use Rattle.run_rules.specs.Views.{nature_told}
use Rattle.run_rules.specs.declared.step.Asked.{Asked}
use Rattle.run_rules.specs.declared.step.Cause.{Cause}
use Rattle.run_rules.specs.declared.step.Step.{Step}
use Rattle.script_lines.specs.declared.script.Script.{Script}
use Rattle.std.proofs.Common.{Bool, Err, List, None, Ok, Result, Some, [], ap, if◌then◌else◌, length, nat_lt, refl}
use Rattle.std.proofs.Common.{subst, sym, true, unwrap_or, ℕ, ◌+◌, ◌-◌, ◌↔◌, ◌∙◌, ◌∷◌, ◌≡◌}
use Rattle.std.specs.Option.{option_map, option_map_or}
use Rattle.token_types.specs.declared.token.Kind.{Kind}
use Rattle.token_types.specs.declared.token.Kind.TheVariants.{Bytes as BytesKind, Lock as LockKind}
use Rattle.token_types.specs.declared.token.Kind.TheVariants.{Opening as OpeningKind, Status as StatusKind}
use Rattle.token_types.specs.declared.token.Need.{Need}
use Rattle.token_types.specs.declared.token.Token.{Token}
use Rattle.tree_calls.specs.declared.call.Call.{Call}
use Rattle.tree_calls.specs.declared.call.Call.TheVariants.{Write}
use Rattle.tree_calls.specs.declared.reply.Refusal.{Refusal}
use Rattle.tree_calls.specs.declared.reply.Reply.{Reply}
use Rattle.tree_calls.specs.declared.reply.Reply.TheVariants.{Bytes, Names, Ok as Fine, Refused as IsRefused}
use Rattle.tree_laws.specs.Parts.{Part}
use Rattle.tree_laws.specs.Parts.Part.{ByteAt, Entries, Size, Traits}
use Rattle.tree_objects.specs.Entries.{names_of}
use Rattle.tree_objects.specs.Spans.{span_between}
use Rattle.host_manager.proofs.TurnAnswers as answers
use Rattle.host_manager.proofs.TurnWrites as turn_writes

-- a verdict by which nothing of the host's own changes is a reply
keeps_replies : (m : Tables) (call : Call) (reply : Reply) (v : Result Verdict Refusal) → changes_nothing v ≡ true
    → reply_now (meant m call v) ≡ Some reply → meant m call v ≡ Replies reply
keeps_replies m call reply (Err refusal) plain e =
    let q : Some (IsRefused refusal) ≡ Some reply = e in
    let p : IsRefused refusal ≡ reply = cc in ap Replies p
keeps_replies m call reply (Ok Does) plain e =
    let q : Some Fine ≡ Some reply = e in
    let p : Fine ≡ reply = cc in ap Replies p
keeps_replies m call reply (Ok (Reads fid span)) plain e =
    let bytes : Reply = Bytes (bytes_seen (content m.cache) fid span.from (span.to - span.from)) in
    let q : Some bytes ≡ Some reply = e in
    let p : bytes ≡ reply = cc in ap Replies p
keeps_replies m call reply (Ok (Lists fid)) plain e =
    let names : Reply = Names (names_of (content m.cache fid Entries)) in
    let q : Some names ≡ Some reply = e in
    let p : names ≡ reply = cc in ap Replies p
keeps_replies m call reply (Ok (Tells fid)) plain e =
    let facts : Reply = of_seen (content m.cache) fid (facts_of (content m.cache) m.user fid) in
    let q : Some facts ≡ Some reply = e in
    let p : facts ≡ reply = cc in ap Replies p
keeps_replies m call reply (Ok (Shows fid which)) plain e =
    let list : Reply = of_seen (content m.cache) fid (access_of which) in
    let q : Some list ≡ Some reply = e in
    let p : list ≡ reply = cc in ap Replies p
keeps_replies m call reply (Ok (Writes fid from to)) plain e = absurd (cc)
keeps_replies m call reply (Ok (Uses fid kind)) plain e = absurd (cc)
keeps_replies m call reply (Ok Frees) plain e = absurd (cc)
keeps_replies m call reply (Ok (Syncs fid)) plain e = absurd (cc)
keeps_replies m call reply (Ok Gives) plain e = absurd (cc)
keeps_replies m call reply (Ok (Asks question)) plain e = absurd (cc)

-- what a verdict means hangs on what is seen, and on the user
pub meant_same : (m x : Tables) (call : Call) (v : Result Verdict Refusal)
    → ((fid : Fid) (part : Part) → content x.cache fid part ≡ content m.cache fid part) → x.user ≡ m.user
    → meant x call v ≡ meant m call v
meant_same m x call (Err refusal) same user = refl
meant_same m x call (Ok verdict) same user = λ i. meant_by (λ fid part. same fid part i) (user i) call verdict

-- what is told of a verdict that changes something
abbrev pub IsTold : Tables → Call → Result Verdict Refusal → Type 0
IsTold m call (Ok (Writes fid from to)) = WritesTo call from to × IsWritten m fid from (bytes_of call)
IsTold m call (Ok (Uses fid kind)) = UsesKind call kind
IsTold m call v = Unit {0}

-- the tables when what it used is marked
pub record IsMarked (m : Tables) (first : Bool) (call : Call) (v : Result Verdict Refusal) (marked : Tables) : Type 0
  where
    pub needs : List Need
    pub tables : marked ≡ record (at_turn m first) { cache = marked.cache }
    pub told : seen marked.cache ≡ record (seen m.cache) { held = used_all needs m.cache.held }
    pub alike : (t : Token) → Helped needs t ↔ Helped (needs_from m call) t
    pub covered : IsCoveredFrom m call
    pub verdict_is : verdict_from m call ≡ meant m call v
    pub own : IsTold m call v

module _ (script : Script) (old m : Tables) (past : List Step) (cause : Cause) (came : List Token)
    (dues : List FilesetId) (c : Asked) (first : Bool) (turn : IsTurn script old m past cause came dues c first)
    (sound_m : IsSoundGives m.gives) (sound : IsSoundUses m.uses) (v : Result Verdict Refusal) (marked : Tables)
    (it : IsMarked m first c.call v marked) where
  abbrev call : Call
  call = c.call

  abbrev draft_0 : Draft
  draft_0 = turn_draft came dues

  abbrev pub Goal : Tables → Draft → Type 0
  Goal new draft = RunsOn script old new past (step_of (Host m.host) cause (sending_due new draft))

  abbrev after_mark : Kept → Tables
  after_mark cache = record (at_turn m first) { cache = cache }

  seen_same : (fid : Fid) (part : Part) → content marked.cache fid part ≡ content m.cache fid part
  seen_same fid (ByteAt at) = ap (λ (x : Seen). unwrap_or (x.bytes fid at) 0) it.told
  seen_same fid Size = ap (λ (x : Seen). option_map_or (λ status. status.length) (x.status fid) 0) it.told
  seen_same fid Traits = ap (λ (x : Seen). option_map nature_told (x.status fid)) it.told
  seen_same fid Entries = ap (λ (x : Seen). x.entries fid) it.told

  meant_is : meant marked call v ≡ meant m call v
  meant_is = meant_same m marked call v seen_same (ap (λ (x : Tables). x.user) it.tables)

  abbrev draft_by : Reply → Draft → Draft
  draft_by reply own = record own {
    answers = record { host = marked.host; k = c.k; call = call; reply = reply; first = first } ∷ [];
  }

  host_is : marked.host ≡ m.host
  host_is = ap (λ (x : Tables). x.host) it.tables

  -- # A reply
  told_it : (new : Tables) (own : Draft) (reply : Reply) → changes_nothing v ≡ true
      → reply_now (meant marked call v) ≡ Some reply → new ≡ marked → own ≡ draft_0
      → Goal new (draft_by reply own)
  told_it new own reply plain says same is =
      let w : AnsweredBy = record { cache = marked.cache; dirty = m.dirty; uses = m.uses } in
      let means : verdict_from m call ≡ Replies reply =
      it.verdict_is ∙ keeps_replies m call reply v plain (sym (ap reply_now meant_is) ∙ says) in
      subst (λ (q : Tables × Draft × HostId). Goal q.0 (record q.1 {
        answers = record { host = q.2; k = c.k; call = call; reply = reply; first = first } ∷ [];
      }))
      (λ i. (sym (same ∙ it.tables) i, sym is i, sym host_is i))
      (answers.by_code script old m past cause came dues c first turn sound_m reply None [] w
      (turn_writes.told_runs script old m past cause came dues c first turn
      (answers.sent script old m past cause came dues c first turn sound_m reply None [] w)
      (answers.alone_in script old m past cause came dues c first turn sound_m reply None [] w) reply means
      it.covered marked.cache it.needs it.told it.alike))

  -- # A Write
  wrote_it : (new : Tables) (own : Draft) (reply : Reply) (fid : Fid) (from to : ℕ) → v ≡ Ok (Writes fid from to)
      → WritesBytes marked fid from to (bytes_of call) new → own ≡ record draft_0 { wrote = Some fid }
      → reply_now (meant marked call v) ≡ Some reply → Goal new (draft_by reply own)
  wrote_it new own reply fid from to v_is writes is says =
      by_call call refl (subst (IsTold m call) v_is it.own).0
    where
      means : verdict_from m call ≡ WritesOf fid from (bytes_of call)
      means = it.verdict_is ∙ ap (meant m call) v_is

      fine : reply ≡ Fine
      fine =
          let q : Some Fine ≡ Some reply = sym (ap (λ (x : Result Verdict Refusal). reply_now (meant marked call x))
          v_is) ∙ says in
          let p : Fine ≡ reply = cc in sym p

      by_call : (c : Call) → call ≡ c → WritesTo c from to → Goal new (draft_by reply own)
      by_call (Write place at bytes) c_is w =
          let at_is : at ≡ from = w.0 in
          let call_is : call ≡ Write place from bytes = c_is ∙ ap (λ f. Write place f bytes) at_is in
          let b : bytes_of call ≡ bytes = ap bytes_of c_is in
          let told : IsWritten m fid from bytes =
          subst (IsWritten m fid from) b (subst (IsTold m call) v_is it.own).1 in
          let to_is : to ≡ from + length bytes = w.1 ∙ ap (λ f. f + length bytes) at_is in
          let shown = writes.shown
          ∙ ap (λ (bs : List ℕ). if nat_lt (content marked.cache fid Size) to
          then after_length (after_write (seen marked.cache) fid from bs) fid to
          else after_write (seen marked.cache) fid from bs) b in
          let w_new : AnsweredBy = record { cache = new.cache; dirty = new.dirty; uses = m.uses } in
          let new_is : new ≡ record (after_mark new.cache) { dirty = new.dirty } =
          writes.tables ∙ ap (λ (x : Tables). record x { cache = new.cache; dirty = new.dirty }) it.tables in
          subst (λ (q : Tables × Draft × HostId × Reply). Goal q.0 (record q.1 {
            answers = record { host = q.2; k = c.k; call = call; reply = q.3; first = first } ∷ [];
          }))
          (λ i. (sym new_is i, sym is i, sym host_is i, sym fine i))
          (answers.by_code script old m past cause came dues c first turn sound_m Fine (Some fid) [] w_new
          (turn_writes.writes_run script old m past cause came dues c first turn
          (answers.sent script old m past cause came dues c first turn sound_m Fine (Some fid) [] w_new)
          (answers.alone_in script old m past cause came dues c first turn sound_m Fine (Some fid) [] w_new) place
          from bytes call_is it.covered fid
          (means ∙ ap (WritesOf fid from) b) told.fits told.covers told.nature told.known marked.cache new.cache
          it.needs
          it.told it.alike to to_is shown new.dirty
          (subst (λ (d : Dirty). Adds d fid (span_between from to) new.dirty)
          (ap (λ (x : Tables). x.dirty) it.tables) writes.dirty)))
      by_call c c_is w = elim w [ ]

  -- # A Lock, an OpenFile
  used_it : (new : Tables) (own : Draft) (reply : Reply) (fid : Fid) (kind : Kind) (label : List ℕ)
      → v ≡ Ok (Uses fid kind) → taken_label call ≡ Some (is_lock kind, label)
      → BeginsUse marked draft_0 fid kind label new own → AreUses m
      → reply_now (meant marked call v) ≡ Some reply → Goal new (draft_by reply own)
  used_it new own reply fid kind label v_is taken begins uses says =
      let its = takes_label m call fid kind uses (subst (IsTold m call) v_is it.own) means in
      let p : Some (is_lock kind, its.label) ≡ Some (is_lock kind, label) = sym its.taken ∙ taken in
      let q : (is_lock kind, its.label) ≡ (is_lock kind, label) = cc in
      let l : its.label ≡ label = ap (λ (z : Bool × List ℕ). z.1) q in
      let t = begins.takes in
      let w_new : AnsweredBy = record {
        cache = new.cache;
        dirty = m.dirty;
        uses = after_take m.uses its.label begins.begun.token;
      } in
      let new_is : new ≡ record (after_mark new.cache) { uses = after_take m.uses its.label begins.begun.token } =
      t.tables
      ∙ (λ i. record (it.tables i) {
        cache = new.cache;
        uses = after_take (it.tables i).uses (sym l i) begins.begun.token;
      }) in
      let held : In begins.begun.token (held_of m) = in_tokens begins.begun.token t.is_held in
      subst (λ (q : Tables × Draft × HostId × Reply). Goal q.0 (record q.1 {
        answers = record { host = q.2; k = c.k; call = call; reply = q.3; first = first } ∷ [];
      }))
      (λ i. (sym new_is i, sym begins.draft_is i, sym host_is i, sym (fine its.is_use) i))
      (answers.by_code script old m past cause came dues c first turn sound_m Fine None (begins.begun ∷ []) w_new
      (uses_run script old m past cause came dues c first turn sound_m
      (answers.sent script old m past cause came dues c first turn sound_m Fine None (begins.begun ∷ []) w_new)
      (answers.alone_in script old m past cause came dues c first turn sound_m Fine None (begins.begun ∷ []) w_new)
      sound it.covered fid kind its.is_use its.label means
      its.exact its.fresh its.not_end begins.begun (t.label_is ∙ sym l) held t.file t.exact marked.cache new.cache
      it.needs it.told it.alike t.shown))
    where
      means : verdict_from m call ≡ used_by fid kind
      means = it.verdict_is ∙ ap (meant m call) v_is

      in_tokens : (t : Token) → In t (tokens_of marked.cache.held) → In t (tokens_of m.cache.held)
      in_tokens t i =
          let r = in_map (λ (h : Held). h.token) marked.cache.held t i in
          let j = in_used it.needs m.cache.held r.0 (subst (λ (hs : List Held). In r.0 hs)
          (ap (λ (z : Seen). z.held) it.told) r.1) in
          subst (λ (z : Token). In z (tokens_of m.cache.held)) (sym r.2)
          (map_in (λ (h : Held). h.token) m.cache.held r.0 j)

      fine : IsUseKind kind → reply ≡ Fine
      fine usable =
          let p : Some Fine ≡ Some reply = sym (by_kind kind usable)
          ∙ (sym (ap (λ (x : Result Verdict Refusal). reply_now (meant marked call x)) v_is) ∙ says) in
          let q : Fine ≡ reply = cc in sym q
        where
          by_kind : (k : Kind) → IsUseKind k → reply_now (used_by fid k) ≡ Some Fine
          by_kind (LockKind writing span) u = refl
          by_kind (OpeningKind opening) u = refl
          by_kind (BytesKind update span) u = elim u [ ]
          by_kind (StatusKind update) u = elim u [ ]

  -- # All but the end of a label
  module _ (uses : AreUses m) (frees : v ≡ Ok Frees → (new : Tables) (own : Draft) (reply : Reply)
      → FreesUse call marked new → own ≡ draft_0 → reply_now (meant marked call v) ≡ Some reply
      → Goal new (draft_by reply own)) where
    by_changes : (x : Result Verdict Refusal) → v ≡ x → (new : Tables) (own : Draft) (reply : Reply)
        → reply_now (meant marked call v) ≡ Some reply → ChangesOwn call marked draft_0 new own x
        → Goal new (draft_by reply own)
    by_changes _ v_is new own reply says (WritesIt fid from to writes is) =
        wrote_it new own reply fid from to v_is writes is says
    by_changes _ v_is new own reply says (UsesIt fid kind label taken begins) =
        used_it new own reply fid kind label v_is taken begins uses says
    by_changes _ v_is new own reply says (FreesIt it is) = frees v_is new own reply it is says
    by_changes _ v_is new own reply says (KeepsAll verdict plain same is) =
        told_it new own reply (ap changes_nothing v_is ∙ plain) says same is

    pub answered_turn : (new : Tables) (after : Draft)
        → Answered c.k call first v marked draft_0 new after → Goal new after
    answered_turn new after answered = subst (Goal new) (sym answered.draft_is)
        (by_changes v refl new answered.own answered.reply answered.right answered.changes)
