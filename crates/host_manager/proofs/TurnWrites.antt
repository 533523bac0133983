-- A call whose turn it is is answered by a reply that changes nothing but the order of use, or is a Write.
use Rattle.base_types.specs.Ids.{same_fid}
use Rattle.base_types.specs.declared.ids.Fid.{Fid}
use Rattle.base_types.specs.declared.ids.FilesetId.{FilesetId}
use Rattle.base_types.specs.declared.limits.TheConstants.{FILE_BYTES_MAX}
use Rattle.host_cache.specs.Seen.{Kept, Seen, after_length, after_write, seen}
use Rattle.host_dirty.specs.Dirtiness.{Adds}
use Rattle.host_dirty.specs.declared.dirty.Dirty.{Dirty}
use Rattle.host_labels.specs.declared.uses.Labelled.{Labelled as UseOf}
use Rattle.host_manager.proofs.Answering.{answered_so, changed_is, content_after, dirty_after, held_after}
use Rattle.host_manager.proofs.Answering.{written_under, zero_after}
use Rattle.host_manager.proofs.Helped.{Helped}
use Rattle.host_manager.proofs.Turns.{IsTurn}
use Rattle.host_tables.specs.AnswerSteps.{AnswerRight, AnsweredBy}
use Rattle.host_tables.specs.Answering.{BegunBy, wrote_by}
use Rattle.host_manager.specs.Running.{RunsOn}
use Rattle.host_tables.specs.Stands.{CanReply, IsCoveredFrom, needs_from, verdict_from}
use Rattle.host_tables.specs.Tables.{content, held_of, labelled}
use Rattle.host_tables.specs.Using.{used_all}
use Rattle.host_tables.specs.declared.tables.Tables.{Tables}
use Rattle.message_types.specs.declared.message.Message.{Message}
use Rattle.need_host.specs.Calls.{Verdict as Meant, reply_now, written_value}
use Rattle.need_host.specs.Calls.Verdict.{Replies, Writes as WritesOf}
use Rattle.run_rules.specs.HostMay.{HostMay}
use Rattle.run_rules.specs.Tokens.{EndsUse, end_call}
use Rattle.run_rules.specs.Views.{nature_told}
use Rattle.run_rules.specs.declared.applied.Answer.{Answer as AnswerOf}
use Rattle.run_rules.specs.declared.step.Asked.{Asked}
use Rattle.run_rules.specs.declared.step.Cause.{Cause}
use Rattle.run_rules.specs.declared.step.Step.{Step}
use Rattle.script_lines.specs.declared.script.Script.{Script}
use Rattle.std.proofs.Common.{Bool, List, None, Some, [], ap, arith, false, if◌then◌else◌, inl, inr, length, nat_lt}
use Rattle.std.proofs.Common.{refl, subst, sym, true, unwrap_or, ℕ, ◌+◌, ◌↔◌, ◌∙◌, ◌≡◌, ◌≤◌, ◌⊎◌}
use Rattle.std.specs.Option.{option_map, option_map_or}
use Rattle.token_types.specs.Covers.{CoversBetween}
use Rattle.token_types.specs.declared.token.Kind.{Kind}
use Rattle.token_types.specs.declared.token.Kind.TheVariants.{Bytes as BytesKind, Lock as LockKind}
use Rattle.token_types.specs.declared.token.Kind.TheVariants.{Opening as OpeningKind, Status as StatusKind}
use Rattle.token_types.specs.declared.token.Need.{Need}
use Rattle.token_types.specs.declared.token.Token.{Token}
use Rattle.tree_calls.specs.declared.call.Call.{Call}
use Rattle.tree_calls.specs.declared.call.Call.TheVariants.{Write}
use Rattle.tree_calls.specs.declared.place.Place.{Place as NamedPlace}
use Rattle.tree_calls.specs.declared.reply.Reply.{Reply}
use Rattle.tree_calls.specs.declared.reply.Reply.TheVariants.{Ok as Fine}
use Rattle.tree_laws.specs.Parts.{Nature, Part}
use Rattle.tree_laws.specs.Parts.Part.{ByteAt, Entries, Size, Traits}
use Rattle.tree_objects.specs.Spans.{span_between}
use Rattle.host_manager.proofs.TurnAnswers as answers
use Rattle.host_manager.proofs.Turns as turns
use Rattle.host_tables.proofs.Ending as ending

module _ (script : Script) (old m : Tables) (past : List Step) (cause : Cause) (came : List Token)
    (dues : List FilesetId) (c : Asked) (first : Bool) (turn : IsTurn script old m past cause came dues c first)
    (sent : List Message)
    (alone : turns.DuesAlone script old m past cause came dues c first turn sent) where
  -- # A reply
  module _ (reply : Reply) (verdict : verdict_from m c.call ≡ Replies reply) (covered : IsCoveredFrom m c.call)
      (cache : Kept) (needs : List Need)
      (told : seen cache ≡ record (seen m.cache) { held = used_all needs m.cache.held })
      (alike : (t : Token) → Helped needs t ↔ Helped (needs_from m c.call) t) where
    abbrev pub s_r : Step
    s_r = answers.s script old m past cause came dues c first turn reply None [] sent

    abbrev pub w_r : AnsweredBy
    w_r = record { cache = cache; dirty = m.dirty; uses = m.uses }

    abbrev can_r : CanReply m c.call
    can_r = record { covered = covered; reply = reply; settled = ap reply_now verdict }

    takes_r : BegunBy (held_of m) c.call (verdict_from m c.call) []
    takes_r = subst (λ (v : Meant). BegunBy (held_of m) c.call v []) (sym verdict) refl

    meets_r : HostMay script m.host past s_r
    meets_r = answers.meets script old m past cause came dues c first turn reply None [] sent alone can_r refl
        (sym (ap wrote_by verdict)) takes_r

    content_same : (fid : Fid) (part : Part) → content cache fid part ≡ content m.cache fid part
    content_same fid (ByteAt at) = ap (λ (x : Seen). unwrap_or (x.bytes fid at) 0) told
    content_same fid Size = ap (λ (x : Seen). option_map_or (λ status. status.length) (x.status fid) 0) told
    content_same fid Traits = ap (λ (x : Seen). option_map nature_told (x.status fid)) told
    content_same fid Entries = ap (λ (x : Seen). x.entries fid) told

    -- it ends no use
    ends_none : (u : UseOf) → EndsUse s_r (labelled u) → ⊥
    ends_none u (a, inl e, is, fine) =
        ending.no_end m (labelled u) (subst (λ (x : Call). verdict_from m x ≡ Replies Fine)
        (sym (ap (λ (x : AnswerOf). x.call) e) ∙ is)
        (verdict ∙ ap Replies (sym (ap (λ (x : AnswerOf). x.reply) e) ∙ fine)))
    ends_none u (a, inr i, is, fine) = elim i [ ]

    right_r : AnswerRight script m w_r (answers.moved script old m past cause came dues c first turn) past s_r
        (answers.answer script old m past cause came dues c first turn reply)
    right_r = answered_so script m past s_r turn.learnt
        (answers.answer script old m past cause came dues c first turn reply)
        (answers.moved script old m past cause came dues c first turn)
        (answers.is_call script old m past cause came dues c first turn reply None [] sent alone) cache m.dirty needs
        refl refl refl refl refl
        (answers.none_kept script old m past cause came dues c first turn reply None [] sent alone)
        (answers.no_stop script old m past cause came dues c first turn reply None [] sent alone)
        (ap (λ (x : Seen). x.held) told) covered alike meets_r.stance ends_none content_same
        (λ f at far. content_same f (ByteAt at) ∙ turn.learnt.contents.zero f at far) (λ f at. refl)
        (λ f at e. absurd (cc)) (answers.no_bye script old m past cause came dues c first turn reply None [] sent alone)

    pub told_runs : RunsOn script old (answers.new script old m past cause came dues c first turn w_r) past s_r
    told_runs = answers.answered_runs script old m past cause came dues c first turn reply None [] sent alone can_r refl
        (sym (ap wrote_by verdict)) takes_r w_r right_r (λ f. inl (content_same f Size))

  -- # A Write
  module _ (place : NamedPlace) (from : ℕ) (bytes : List ℕ) (call_is : c.call ≡ Write place from bytes)
      (covered : IsCoveredFrom m c.call) (fid : Fid) (verdict : verdict_from m c.call ≡ WritesOf fid from bytes)
      (end_fits : from + length bytes ≤ FILE_BYTES_MAX)
      (covers : CoversBetween (held_of m) fid true from (from + length bytes))
      (nature : Nature) (known : content m.cache fid Traits ≡ Some nature)
      (marked cache : Kept) (needs : List Need)
      (told : seen marked ≡ record (seen m.cache) { held = used_all needs m.cache.held })
      (alike : (t : Token) → Helped needs t ↔ Helped (needs_from m c.call) t) (to : ℕ)
      (to_is : to ≡ from + length bytes)
      (shown : seen cache ≡ (if nat_lt (content marked fid Size) to
      then after_length (after_write (seen marked) fid from bytes) fid to
      else after_write (seen marked) fid from bytes))
      (dirty : Dirty) (adds : Adds m.dirty fid (span_between from to) dirty) where
    abbrev pub s_w : Step
    s_w = answers.s script old m past cause came dues c first turn Fine (Some fid) [] sent

    abbrev a_w : AnswerOf
    a_w = answers.answer script old m past cause came dues c first turn Fine

    same : (f : Fid) (part : Part) → content marked f part ≡ content m.cache f part
    same f (ByteAt at) = ap (λ (x : Seen). unwrap_or (x.bytes f at) 0) told
    same f Size = ap (λ (x : Seen). option_map_or (λ status. status.length) (x.status f) 0) told
    same f Traits = ap (λ (x : Seen). option_map nature_told (x.status f)) told
    same f Entries = ap (λ (x : Seen). x.entries f) told

    held_w : cache.held ≡ used_all needs m.cache.held
    held_w = held_after m.cache marked cache fid from bytes to nature same known to_is shown
        ∙ ap (λ (x : Seen). x.held) told

    abbrev can : CanReply m c.call
    can = record { covered = covered; reply = Fine; settled = ap reply_now verdict }

    takes : BegunBy (held_of m) c.call (verdict_from m c.call) []
    takes = subst (λ (v : Meant). BegunBy (held_of m) c.call v []) (sym verdict) refl

    pub meets_w : HostMay script m.host past s_w
    meets_w = answers.meets script old m past cause came dues c first turn Fine (Some fid) [] sent alone can refl
        (sym (ap wrote_by verdict)) takes

    not_end : (k : Kind) (label : List ℕ) → Write place from bytes ≡ end_call k label → ⊥
    not_end (BytesKind update span) label e = cc
    not_end (StatusKind update) label e = cc
    not_end (LockKind writing span) label e = cc
    not_end (OpeningKind kind) label e = cc

    after_w : (f : Fid) (part : Part) → content cache f part
        ≡ (if same_fid fid f then written_value from bytes part (content m.cache f part) else content m.cache f part)
    after_w = content_after m.cache marked cache fid from bytes to nature same known to_is shown

    pub right_w : AnswerRight script m (record { cache = cache; dirty = dirty; uses = m.uses })
        (answers.moved script old m past cause came dues c first turn) past s_w a_w
    right_w = answered_so script m past s_w turn.learnt a_w
        (answers.moved script old m past cause came dues c first turn)
        (answers.is_call script old m past cause came dues c first turn Fine (Some fid) [] sent alone) cache dirty
        needs refl refl refl refl
        refl (answers.none_kept script old m past cause came dues c first turn Fine (Some fid) [] sent alone)
        (answers.no_stop script old m past cause came dues c first turn Fine (Some fid) [] sent alone) held_w covered
        alike meets_w.stance
        (λ u e. elim e.1 [
          | inl q ↦ not_end u.token.kind u.label
              (sym call_is ∙ sym (ap (λ (z : AnswerOf). z.call) q) ∙ e.2)
          | inr n ↦ elim n [ ]
        ])
        (λ f part. after_w f part
        ∙ sym (changed_is s_w a_w refl place from bytes call_is fid refl (content m.cache) f part))
        (zero_after m.cache marked cache fid from bytes to nature same known to_is shown end_fits
        turn.learnt.contents.zero)
        (dirty_after s_w a_w refl place from bytes call_is fid refl end_fits m.dirty dirty
        (subst (λ (n : ℕ). Adds m.dirty fid (span_between from n) dirty) to_is adds))
        (written_under s_w a_w refl place from bytes call_is fid refl end_fits (held_of m) covers)
        (answers.no_bye script old m past cause came dues c first turn Fine (Some fid) [] sent alone)

    pub size_w : (f : Fid) → (content cache f Size ≡ content m.cache f Size) ⊎ (content cache f Size ≤ FILE_BYTES_MAX)
    size_w f = by_file (same_fid fid f) (nat_lt (content m.cache f Size) (from + length bytes)) (after_w f Size)
      where
        by_file : (b c : Bool) → content cache f Size
            ≡ (if b then (if c then from + length bytes else content m.cache f Size) else content m.cache f Size)
            → (content cache f Size ≡ content m.cache f Size) ⊎ (content cache f Size ≤ FILE_BYTES_MAX)
        by_file true true e = inr (omega (arith, e, end_fits))
        by_file true false e = inl e
        by_file false c e = inl e

    abbrev pub w_w : AnsweredBy
    w_w = record { cache = cache; dirty = dirty; uses = m.uses }

    pub writes_run : RunsOn script old (answers.new script old m past cause came dues c first turn w_w) past s_w
    writes_run = answers.answered_runs script old m past cause came dues c first turn Fine (Some fid) [] sent alone
        can refl
        (sym (ap wrote_by verdict)) takes w_w right_w size_w
