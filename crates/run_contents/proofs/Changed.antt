-- A Change that is written down meets the rules of contents.
use Rattle.std.proofs.Common.{Bool, List, None, Some, [], ap, arith, false, inl, inr, nat_le, nat_lt, refl, subst}
use Rattle.std.proofs.Common.{sym, true, ◌&&◌, ◌<◌, ◌==◌, ◌||◌, ◌∙◌, ◌∷◌, ◌≡◌, ◌≤◌, ◌⊎◌}
use Rattle.std.proofs.lemmas.Bool.{and_parts, false≢true, ne_eqb}
use Rattle.std.proofs.lemmas.Grind.{common_steps}
use Rattle.std.specs.Prelude.{if◌then◌else◌, not}
use Rattle.base_types.specs.declared.ids.Fid.{Fid}
use Rattle.base_types.specs.declared.ids.FilesetId.{FilesetId}
use Rattle.base_types.specs.declared.ids.HostId.{HostId}
use Rattle.base_types.specs.declared.ids.ServerId.{ServerId}
use Rattle.tree_calls.specs.Limits.{keeps_limit}
use Rattle.tree_calls.specs.declared.reply.Refusal.{Refusal}
use Rattle.tree_calls.specs.declared.reply.Reply.{Reply}
use Rattle.tree_calls.specs.declared.reply.Reply.TheVariants.{Refused}
use Rattle.need_host.proofs.Showing.{tokens_show_parts}
use Rattle.need_host.specs.Looks.{kept_view}
use Rattle.need_host.specs.Questions.{is_change}
use Rattle.need_host.specs.Shows.{can_be, needs_update, shows}
use Rattle.need_host.specs.Walks.{root_of}
use Rattle.tree_answers.specs.Answers.{answer_to}
use Rattle.tree_answers.specs.declared.tree.Tree.{Tree}
use Rattle.need_server.specs.Laws.{has_room}
use Rattle.message_types.specs.Soundness.{HasRoom}
use Rattle.message_types.specs.declared.message.Body.TheVariants.{Down, GiveBack}
use Rattle.token_types.specs.Conflicts.{any_conflict, blocks, need_of}
use Rattle.token_types.specs.declared.token.Kind.{Kind}
use Rattle.token_types.specs.declared.token.Kind.TheVariants.{Bytes, Lock, Opening, Status}
use Rattle.token_types.specs.declared.token.Need.{Need}
use Rattle.token_types.specs.declared.token.Token.{Token}
use Rattle.tree_laws.proofs.Steps.{same_number}
use Rattle.tree_laws.specs.Parts.{Part, Seen}
use Rattle.tree_laws.specs.Parts.Part.{ByteAt, Entries, Size, Traits}
use Rattle.run_parts.specs.Cells.{Does, kept_after as kept_after_part}
use Rattle.run_parts.specs.Cells.Does.{Loses, Nothing, Sets, Stores}
use Rattle.run_parts.specs.Contents.{Bars, Contents, ServerShows, kept, site}
use Rattle.run_parts.specs.Deeds.{Deed, acts_in}
use Rattle.run_contents.proofs.Bodies.{server_is}
use Rattle.run_contents.proofs.Keeping.{answer_kept}
use Rattle.run_contents.proofs.KeptGives.{both}
use Rattle.run_contents.proofs.Sent.{At, Fine, all_alike, all_roots, unsent}
use Rattle.run_contents.proofs.Sets.{set_gone, set_is, set_kind, set_under, set_whole}
use Rattle.run_contents.specs.Doing.{at_home, changes, comes, sets_part, wanted_by, writes}
use Rattle.run_rules.specs.Doings.{Granted}
use Rattle.run_rules.specs.Doings.Doing.{Sent, Took, WritesDown}
use Rattle.run_rules.specs.Kept.{filesets_after, is_refusal}
use Rattle.run_rules.specs.ServerDecides.{DecidedSo, IsWrittenSo, refusal_of}
use Rattle.run_rules.specs.ServerDecides.DecidedSo.{IsRefusedByTable, MeetsPinned, TakesEffect}
use Rattle.run_rules.specs.Wants.{CanGrant, IsInWay, asker, asker_of, exporter, is_use, moves_fileset}
use Rattle.run_rules.specs.declared.applied.Applied.TheVariants.{Done as IsDone}
use Rattle.run_rules.specs.declared.applied.Written.{Written}
use Rattle.run_tokens.proofs.Unmoved.{put_on}
use Rattle.run_rules.specs.declared.step.Cause.{Cause}

module _ (c : Contents) (v : ServerId) (tree : Tree) (cause : Cause) (D : List Deed) (x : Written) (at : At c v D tree)
    (k : IsWrittenSo v tree (acts_in D) x)
    (good : (t : Token) → Granted v (acts_in D) t → (t.host.0 ≤ 16) × HasRoom t.kind)
    (sound : is_refusal x.answer.reply ≡ false → (keeps_limit x.answer.call ≡ true) × (is_change x.answer.call ≡ true))
    (root : (fs : FilesetId) → c.root fs ≡ root_of fs) where
  abbrev wanted : List Need
  wanted = wanted_by tree x.answer.host x.answer.call

  abbrev left : Tree
  left = (answer_to tree x.answer.host x.answer.call).tree

  abbrev deed : Deed
  deed = record { act = WritesDown x; does = at_home v (writes cause tree x) }

  -- one that isn't refused could be granted, for the exporter
  record Effective : Type 0 where
    can : CanGrant v (acts_in D) k.w
    asks : asker k.w ≡ exporter
    needs : k.w.needs ≡ wanted

  no_refusal : (reply : Reply) (refusal : Refusal) → reply ≡ Refused refusal → is_refusal reply ≡ false → ⊥
  no_refusal reply refusal e f = false≢true (sym f ∙ ap is_refusal e)

  effective : is_refusal x.answer.reply ≡ false → Effective
  effective e = by k.so
    where
      parts : (enter label move : Bool) → (not enter && not label && not move) ≡ true → (enter ≡ false) × (label ≡ false)
      parts false false move q = (refl, refl)
      parts true label move q = absurd (false≢true q)
      parts false true move q = absurd (false≢true q)

      by : DecidedSo v tree (acts_in D) k.w k.change x.answer.reply → Effective
      by (IsRefusedByTable refusal on is) = absurd (no_refusal x.answer.reply refusal is e)
      by (MeetsPinned not row can is) =
          absurd (no_refusal x.answer.reply (refusal_of k.change.call) is e)
      by (TakesEffect effect row can is) =
          let p = parts k.change.enter (is_use k.change.call) (moves_fileset k.change.call) effect in
          let host = sym k.host in
          let call = sym k.call in
          record {
            can = can;
            asks = ap (asker_of k.w.host) k.request ∙ ap (λ b. if b then k.w.host else exporter) p.1;
            needs = row.0
                ∙ (ap (λ b. if b then [] else wanted_by tree k.w.host k.change.call) p.0
                ∙ (λ i. wanted_by tree (host i) (call i)));
          }

  refused : is_refusal x.answer.reply ≡ true → (f : Fid) (p : Part)
      → (let nothing : Does (Seen p) = Nothing in writes cause tree x f p ≡ nothing)
  refused e f p = ap (λ b. if b then Nothing else changes wanted tree (if b then tree else left) f p) e

  accepted : is_refusal x.answer.reply ≡ false → (f : Fid) (p : Part)
      → writes cause tree x f p ≡ changes wanted tree left f p
  accepted e f p = ap (λ b. if b then Nothing else changes wanted tree (if b then tree else left) f p) e

  -- what is set is of a file of the server, by a Change that isn't refused
  record IsSet (f : Fid) (p : Part) (y : Seen p) : Type 0 where
    home : site f ≡ v
    takes : is_refusal x.answer.reply ≡ false
    sets : changes wanted tree left f p ≡ Sets y

  is_set : (f : Fid) (p : Part) (y : Seen p) → deed.does f p ≡ Sets y → IsSet f p y
  is_set f p y e = go ((site f).0 == v.0) refl e
    where
      from : (b : Bool) → is_refusal x.answer.reply ≡ b → site f ≡ v → writes cause tree x f p ≡ Sets y → IsSet f p y
      from true r home q = absurd (let non : Nothing ≡ Sets y = sym (refused r f p) ∙ q in cc)
      from false r home q = record { home = home; takes = r; sets = sym (accepted r f p) ∙ q }

      go : (b : Bool) → ((site f).0 == v.0) ≡ b → (if b then writes cause tree x f p else Nothing) ≡ Sets y
          → IsSet f p y
      go true h q = from (is_refusal x.answer.reply) refl (server_is (site f) v h) q
      go false h q = absurd (let non : Nothing ≡ Sets y = q in cc)

  -- it does no other thing
  plain_part : (touched : Bool) (p : Part) (old new y : Seen p) → sets_part touched p old new ≡ Stores y → ⊥
  plain_part touched (ByteAt q) old new y e = two (old == new) e
    where
      two : (b : Bool) → (if b then Nothing else Sets new) ≡ Stores y → ⊥
      two true e = let non : Nothing ≡ Stores y = e in cc
      two false e = let non : Sets new ≡ Stores y = e in cc
  plain_part touched Size old new y e = two (old == new) e
    where
      two : (b : Bool) → (if b then Nothing else Sets new) ≡ Stores y → ⊥
      two true e = let non : Nothing ≡ Stores y = e in cc
      two false e = let non : Sets new ≡ Stores y = e in cc
  plain_part true Traits old new y e = let non : Sets new ≡ Stores y = e in cc
  plain_part false Traits old new y e = let non : Nothing ≡ Stores y = e in cc
  plain_part true Entries old new y e = let non : Sets new ≡ Stores y = e in cc
  plain_part false Entries old new y e = let non : Nothing ≡ Stores y = e in cc

  loses_part : (touched : Bool) (p : Part) (old new : Seen p) (h : HostId) → sets_part touched p old new ≡ Loses h → ⊥
  loses_part touched (ByteAt q) old new h e = two (old == new) e
    where
      two : (b : Bool) → (if b then Nothing else Sets new) ≡ Loses h → ⊥
      two true e = let non : Nothing ≡ Loses h = e in cc
      two false e = let non : Sets new ≡ Loses h = e in cc
  loses_part touched Size old new h e = two (old == new) e
    where
      two : (b : Bool) → (if b then Nothing else Sets new) ≡ Loses h → ⊥
      two true e = let non : Nothing ≡ Loses h = e in cc
      two false e = let non : Sets new ≡ Loses h = e in cc
  loses_part true Traits old new h e = let non : Sets new ≡ Loses h = e in cc
  loses_part false Traits old new h e = let non : Nothing ≡ Loses h = e in cc
  loses_part true Entries old new h e = let non : Sets new ≡ Loses h = e in cc
  loses_part false Entries old new h e = let non : Nothing ≡ Loses h = e in cc

  -- what the doing is: nothing, or the setting of a part
  only : (f : Fid) (p : Part) → (let nothing : Does (Seen p) = Nothing in deed.does f p ≡ nothing)
      ⊎ (deed.does f p ≡ changes wanted tree left f p)
  only f p = go ((site f).0 == v.0) (is_refusal x.answer.reply) refl refl
    where
      go : (b r : Bool) → ((site f).0 == v.0) ≡ b → is_refusal x.answer.reply ≡ r
          → (let nothing : Does (Seen p) = Nothing in deed.does f p ≡ nothing)
          ⊎ (deed.does f p ≡ changes wanted tree left f p)
      go false r h e = inl (ap (λ b. if b then writes cause tree x f p else Nothing) h)
      go true true h e = inl (ap (λ b. if b then writes cause tree x f p else Nothing) h ∙ refused e f p)
      go true false h e = inr (ap (λ b. if b then writes cause tree x f p else Nothing) h ∙ accepted e f p)

  never_stores : (f : Fid) (p : Part) (y : Seen p) → deed.does f p ≡ Stores y → ⊥
  never_stores f p y e = elim (only f p) [
    | inl none ↦ (let non : Nothing ≡ Stores y = sym none ∙ e in cc)
    | inr is ↦ plain_part (needs_update wanted f p || comes tree left f) p (kept_view tree f p) (kept_view left f p) y
        (sym is ∙ e)
  ]

  never_loses : (f : Fid) (p : Part) (h : HostId) → deed.does f p ≡ Loses h → ⊥
  never_loses f p h e = elim (only f p) [
    | inl none ↦ (let non : Nothing ≡ Loses h = sym none ∙ e in cc)
    | inr is ↦ loses_part (needs_update wanted f p || comes tree left f) p (kept_view tree f p) (kept_view left f p) h
        (sym is ∙ e)
  ]

  -- a token that is in the way of what is wanted is barred
  barred : Effective → (t : Token) → (HasRoom t.kind → any_conflict (need_of t) wanted ≡ true)
      → Bars v (acts_in D) t
  barred f t way = (f.can.over, λ g. f.can.free t (inl g) (blocked g))
    where
      blocked : Granted v (acts_in D) t → IsInWay k.w t
      blocked g =
          let q = good t g in
          let low = q.0 in
          let apart : (t.host.0 == 17) ≡ false = ne_eqb t.host.0 17 (λ e. omega (arith, low, e)) in
          let asks = sym f.asks in
          let needs = sym f.needs in
          subst (λ (y : HostId × List Need). blocks y.0 y.1 t ≡ true) (λ i. (asks i, needs i))
          (both (not (t.host.0 == 17)) (any_conflict (need_of t) wanted) (ap not apart) (way q.1))

  showing : (kind : Kind) (p : Part) → shows kind p ≡ true → can_be p ≡ true
  showing (Bytes update span) (ByteAt q) e =
      let test : nat_lt q span.to ≡ true = (and_parts (nat_le span.from q) (nat_lt q span.to) e).1 in
      let low : q < span.to = grind (arith, common_steps, test) in
      let most : span.to ≤ 65536 = span.within in
      let less : q < 65536 = omega (arith, low, most) in
      let so : nat_lt q 65536 ≡ true = grind (arith, common_steps, less) in
      so
  showing (Status update) (ByteAt q) e = absurd (false≢true e)
  showing (Lock writing span) (ByteAt q) e = absurd (false≢true e)
  showing (Opening kind) (ByteAt q) e = absurd (false≢true e)
  showing kind Size e = refl
  showing kind Traits e = refl
  showing kind Entries e = refl

  way : (f : Fid) (p : Part) (t : Token) → t.fid ≡ f → shows t.kind p ≡ true
      → (can_be p ≡ true → needs_update wanted f p ≡ true) → any_conflict (need_of t) wanted ≡ true
  way f p t file cov up =
      tokens_show_parts.conflict (need_of t) wanted p cov
      (subst (λ (g : Fid). needs_update wanted g p ≡ true) (sym file) (up (showing t.kind p cov)))

  gone_here : (f : Fid) → site f ≡ v → kept_view tree f Traits ≡ None → kept c D f Traits ≡ None
  gone_here f home none = at.shows f Traits home ∙ none

  roomy : (kind : Kind) → HasRoom kind → has_room kind ≡ true
  roomy (Bytes update span) r =
      let low : span.from < span.to = r in
      let so : nat_lt span.from span.to ≡ true = grind (arith, common_steps, low) in so
  roomy (Status update) r = refl
  roomy (Lock writing span) r =
      let low : span.from < span.to = r in
      let so : nat_lt span.from span.to ≡ true = grind (arith, common_steps, low) in so
  roomy (Opening kind) r = refl

  -- what is kept then is what the kept filesets show
  pub changed_at : At c v (deed ∷ D) (filesets_after cause tree (IsDone x))
  changed_at = go (is_refusal x.answer.reply) refl
    where
      at_b : (b : Bool) → is_refusal x.answer.reply ≡ b → At c v (deed ∷ D) (if b then tree else left)
      at_b true e = record {
        put = put_on (WritesDown x) (acts_in D) (λ p. let q = p.1 in cc) at.put;
        shows = λ f p home.
            ap (λ (d : Does (Seen p)). kept_after_part p d (kept c D f p)) (none e f p) ∙ at.shows f p home;
        keeps = at.keeps;
      }
        where
          none : is_refusal x.answer.reply ≡ true → (f : Fid) (p : Part)
              → (let nothing : Does (Seen p) = Nothing in deed.does f p ≡ nothing)
          none e f p = go ((site f).0 == v.0)
            where
              go : (b : Bool) → (let nothing : Does (Seen p) = Nothing in
                  (if b then writes cause tree x f p else Nothing) ≡ nothing)
              go true = refused e f p
              go false = refl
      at_b false e =
          let s = sound e in
          record {
            put = put_on (WritesDown x) (acts_in D) (λ p. let q = p.1 in cc) at.put;
            shows = λ f p home.
                let is : deed.does f p ≡ changes wanted tree left f p =
                ap (λ (w : ServerId). if (site f).0 == w.0 then writes cause tree x f p else Nothing) (sym home)
                ∙ (ap (λ b. if b then writes cause tree x f p else Nothing) (same_number (site f).0)
                ∙ accepted e f p) in
                ap (λ (d : Does (Seen p)). kept_after_part p d (kept c D f p)) is
                ∙ (ap (λ (y : Seen p). kept_after_part p (changes wanted tree left f p) y) (at.shows f p home)
                ∙ set_is tree at.keeps.formed x.answer.host x.answer.call s.1 f p);
            keeps = answer_kept tree at.keeps x.answer.host x.answer.call s.0 s.1;
          }

      go : (b : Bool) → is_refusal x.answer.reply ≡ b → At c v (deed ∷ D) (filesets_after cause tree (IsDone x))
      go b e = subst (λ r. At c v (deed ∷ D) (if r then tree else left)) (sym e) (at_b b e)

  pub shows_change : ServerShows c v D deed
  shows_change = record {
    tells = plain.tells;
    needs = plain.needs;
    blind = plain.blind;
    there = plain.there;
    stores = λ f p y e. absurd (never_stores f p y e);
    stores_all = λ h g p y applies writable fits has.
        absurd (let q : WritesDown x ≡ Took h _ applies.0.0 (GiveBack g) = applies.0.2.0 in cc);
    sets = λ f p y e.
        let s = is_set f p y e in
        let ok = sound s.takes in (
          (x, refl),
          elim (set_under tree at.keeps.formed x.answer.host x.answer.call ok.1 f p y s.sets) [
            | inl gone ↦ inl (gone_here f s.home gone)
            | inr up ↦ inr (λ t file cov. barred (effective s.takes) t (λ room. way f p t file cov up))
          ],
        );
    sets_whole = λ f y q t e file cov.
        let s = is_set f Size y e in
        let ok = sound s.takes in
        elim (set_whole tree at.keeps.formed x.answer.host x.answer.call ok.1 f y s.sets) [
          | inl gone ↦ inl (gone_here f s.home gone)
          | inr up ↦ inr (barred (effective s.takes) t (λ room. way f (ByteAt q) t file cov (λ can. up q can)))
        ];
    removes = λ f t e file.
        let s = is_set f Traits None e in
        let ok = sound s.takes in
        barred (effective s.takes) t (λ room.
        subst (λ (g : Fid). any_conflict (record { fid = g; kind = t.kind }) wanted ≡ true) (sym file)
        (set_gone tree at.keeps.formed x.answer.host x.answer.call ok.1 f t.kind s.sets (roomy t.kind room)));
    keeps_kind = λ f old new e was.
        let s = is_set f Traits (Some new) e in
        let ok = sound s.takes in
        set_kind tree at.keeps.formed x.answer.host x.answer.call ok.1 f old new s.sets
        (sym (at.shows f Traits s.home) ∙ was);
    alike = all_alike c v root (deed ∷ D) (filesets_after cause tree (IsDone x)) changed_at;
    roots = all_roots c v root (deed ∷ D) (filesets_after cause tree (IsDone x)) changed_at;
    loses = λ f p h e. absurd (never_loses f p h e);
    loses_all = λ f p h e n is away. absurd (let q : WritesDown x ≡ Took h e n Down = is in cc);
  }
    where
      plain : Fine c v D (WritesDown x)
      plain = unsent c v D (WritesDown x) (λ h e n b q. let r : WritesDown x ≡ Sent h e n b = q in cc)
