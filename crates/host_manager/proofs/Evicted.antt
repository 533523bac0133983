-- The step in which a token is evicted under which something is dirty.
use Rattle.base_types.specs.declared.ids.Fid.{Fid}
use Rattle.base_types.specs.declared.ids.FilesetId.{FilesetId}
use Rattle.base_types.specs.declared.ids.Node.TheVariants.{Host}
use Rattle.base_types.specs.declared.ids.ServerId.{ServerId}
use Rattle.base_types.specs.declared.limits.TheConstants.{FILE_BYTES_MAX}
use Rattle.host_cache.specs.Holding.{IsOnce, is_idle, last_of, tokens_of}
use Rattle.host_cache.specs.Seen.{after_drop, seen}
use Rattle.host_cache.specs.declared.held.Held.{Held}
use Rattle.host_dirty.specs.declared.dirty.Dirty.{Dirty}
use Rattle.host_gives.specs.Counters.{last_of as last_counter}
use Rattle.host_gives.specs.Giving.{IsSound as IsSoundGives, after_add, is_of, outstanding}
use Rattle.host_leaves.specs.Giving.{Gives, GivesWhere, ids_of, leaves_by, leaving_by, making, returned_ids}
use Rattle.host_leaves.specs.Giving.{returning, with_length_of}
use Rattle.host_leaves.specs.Sending.{message_to, saying, sending_due, with_once}
use Rattle.host_manager.proofs.Evicting.{oldest_is}
use Rattle.host_manager.proofs.Running.{asks_none, gone_on, runs_on}
use Rattle.host_manager.proofs.Sizes.{length_fits, size_left}
use Rattle.host_manager.specs.Closing.{EvictsIt, oldest_of}
use Rattle.host_tables.proofs.Declared.{home_is}
use Rattle.host_tables.proofs.Lists.{id_same, in_either, map_in}
use Rattle.host_tables.proofs.Tidy.{home_number, tidy_stays}
use Rattle.host_tables.specs.Drafts.{no_draft, step_of}
use Rattle.host_tables.specs.LeavingWhole.{leaves_own}
use Rattle.host_tables.specs.Machine.{StepRight}
use Rattle.host_manager.specs.Running.{IsRunning, OwnRight, RunsOn}
use Rattle.host_tables.specs.Stands.{Stands}
use Rattle.host_tables.specs.Tables.{held_of, site_at}
use Rattle.host_tables.specs.Tidy.{IsTidy, IsTidyGive, IsTidyToken}
use Rattle.host_tables.specs.Updates.{home_at}
use Rattle.host_gives.specs.declared.leavings.Leaving.{Leaving}
use Rattle.host_tables.specs.declared.draft.Draft.{Draft}
use Rattle.host_tables.specs.declared.tables.Tables.{Tables}
use Rattle.message_types.specs.Soundness.{AreFileBytes, Each, IsServer, IsSound}
use Rattle.message_types.specs.declared.giving.Give.{Give}
use Rattle.message_types.specs.declared.message.Body.TheVariants.{GiveBack}
use Rattle.message_types.specs.declared.message.Message.{Message}
use Rattle.run_rules.specs.Messages.{home}
use Rattle.run_rules.specs.Past.{In}
use Rattle.run_rules.specs.declared.applied.Why.TheVariants.{Evicted}
use Rattle.run_rules.specs.declared.step.Cause.TheVariants.{Evict}
use Rattle.run_rules.specs.declared.step.Step.{Step}
use Rattle.script_lines.specs.declared.script.Script.{Script}
use Rattle.std.proofs.Common.{Bool, List, None, Option, Some, [], ap, arith, cond, eq-eqb, false, filter}
use Rattle.std.proofs.Common.{if◌then◌else◌, inl, inr, is_none, length, not, refl, subst, sym, true, ◌++◌, ◌+◌, ◌<◌}
use Rattle.std.proofs.Common.{◌||◌, ◌∙◌, ◌∷◌, ◌≡◌, ◌≤◌, ◌⊎◌, ℕ}
use Rattle.std.specs.List.{find}
use Rattle.std.specs.Option.{option_map_or}
use Rattle.std.specs.Prelude.{IfSome}
use Rattle.token_types.specs.declared.token.Token.{Token}
use Rattle.token_types.specs.declared.token.TokenId.{TokenId}
use Rattle.host_manager.proofs.Given as given_of

-- the first of a list that passes, where none did before, is the one at its end
found_last : {A : Type 0} (test : A → Bool) (xs : List A) (y : A) → find test xs ≡ None → test y ≡ true
    → find test (xs ++ y ∷ []) ≡ Some y
found_last test [] y none e = ap (λ (b : Bool). cond b (Some y) None) e
found_last test (x ∷ xs) y none e = by_head (found_last test xs y) (test x) none
  where
    by_head : (find test xs ≡ None → test y ≡ true → find test (xs ++ y ∷ []) ≡ Some y) → (b : Bool)
        → cond b (Some x) (find test xs) ≡ None → cond b (Some x) (find test (xs ++ y ∷ [])) ≡ Some y
    by_head rest true n = absurd (cc)
    by_head rest false n = rest n e

module _ (m new : Tables) (after : Draft) (t : Token) (free : m.call ≡ None)
    (many : m.limit < length (filter is_idle m.cache.held)) (once : IsOnce m.cache.held)
    (sound : IsSoundGives m.gives)
    (oldest : oldest_of m ≡ Some t) (its : EvictsIt m no_draft t new after) (all : its.leaves.giving ≡ t ∷ []) where
  pub gives : Gives m no_draft t.fid (t ∷ []) (t ∷ []) None its.leaves.given its.leaves.made
  gives = subst (λ (g : List Token). GivesWhere m no_draft t.fid g (t ∷ []) its.leaves.given its.leaves.made) all
      its.leaves.gives

  abbrev pub g : Give
  g = record gives.give { ends = None }

  abbrev pub message : Message
  message = message_to m (home_at g.fid.fileset) (GiveBack g)

  abbrev dirty : Dirty
  dirty = its.leaves.given.dirty

  -- the tables after it
  abbrev pub after_it : Tables
  after_it = record m {
    cache = new.cache;
    dirty = dirty;
    lengths = with_length_of g.fid g.number g.length m.lengths;
    gives = after_add m.gives message;
    leaving = m.leaving ++ leaving_by g.fid.fileset g.number t ∷ [];
  }

  pub tables_are : new ≡ after_it
  tables_are = its.leaves.drops.tables ∙ ap (λ (x : Tables). record x { cache = new.cache }) gives.tables

  shown : seen new.cache ≡ after_drop (seen m.cache) t.id
  shown = its.leaves.drops.shown ∙ ap (λ (x : Tables). after_drop (seen x.cache) t.id) gives.tables

  -- what the step has, with what it sends
  abbrev pub done : List FilesetId → List Message → Draft
  done due sent = record no_draft {
    made = g ∷ [];
    dropped = leaves_by Evicted t ∷ [];
    due = due;
    sent = sent;
  }

  none_back : returned_ids (t ∷ []) its.leaves.giving [] ≡ []
  none_back =
      ap (λ (giving : List Token). returned_ids (t ∷ []) giving []) all
      ∙ ap (λ (b : Bool). ids_of (cond (not (b || false)) (t ∷ []) []) ++ []) (id_same t.id t.id refl)

  -- before what became outstanding is sent
  left_is : (o : Option Message) → outstanding m.gives g.fid.fileset ≡ o
      → its.left ≡ done (if is_none o then g.fid.fileset ∷ [] else []) []
  left_is o e =
      its.leaves.draft_is
      ∙ ap (λ (ids : List TokenId). returning new t.fid ids its.leaves.dropped) none_back
      ∙ its.leaves.drops.draft_is
      ∙ ap (λ (d : Draft). record d { dropped = d.dropped ++ leaves_by Evicted t ∷ [] })
      (gives.draft_is ∙ made_is o e)
    where
      made_is : (o : Option Message) → outstanding m.gives g.fid.fileset ≡ o
          → making m g no_draft
          ≡ record no_draft { made = g ∷ []; due = if is_none o then g.fid.fileset ∷ [] else [] }
      made_is None e = ap (λ (z : Option Message). record (if is_none z
          then record no_draft { due = with_once [] g.fid.fileset } else no_draft) { made = [] ++ g ∷ [] }) e
      made_is (Some y) e = ap (λ (z : Option Message). record (if is_none z
          then record no_draft { due = with_once [] g.fid.fileset } else no_draft) { made = [] ++ g ∷ [] }) e

  pub after_is : (o : Option Message) → outstanding m.gives g.fid.fileset ≡ o
      → (due : List FilesetId) × (after ≡ done due (if is_none o then message_to after_it (home_at g.fid.fileset)
      (GiveBack g) ∷ [] else []))
  after_is None e =
      let found : outstanding after_it.gives g.fid.fileset ≡ Some message = found_last (is_of g.fid.fileset)
      m.gives.gives message e (eq-eqb g.fid.fileset.0 g.fid.fileset.0 refl) in (
        g.fid.fileset ∷ [],
        its.sends
            ∙ (λ i. sending_due (tables_are i) (left_is None e i))
            ∙ ap (λ (z : Option Message). option_map_or
            (λ message. saying after_it (home_at g.fid.fileset) message.body (done (g.fid.fileset ∷ []) [])) z
            (done (g.fid.fileset ∷ []) [])) found,
      )
  after_is (Some y) e = ([], its.sends ∙ (λ i. sending_due (tables_are i) (left_is (Some y) e i)))

  module _ (fits : AreFileBytes g.pieces) (size : IfSome g.length (λ n. n ≤ FILE_BYTES_MAX)) (script : Script)
      (past : List Step) (running : IsRunning script m past) where
    stands : Stands script m past
    stands = running.rests.stands

    found : (h : Held) × (last_of (filter is_idle m.cache.held) ≡ Some h) × (h.token ≡ t) × In h m.cache.held
    found = oldest_is m t stands.cache.once oldest

    within : In t (held_of m)
    within = subst (λ (u : Token). In u (held_of m)) found.2
        (map_in (λ (x : Held). x.token) m.cache.held found.0 found.3)

    tidy_t : IsTidyToken script.roster m.host t
    tidy_t = running.tidy.held t within

    file : g.fid ≡ t.fid
    file = gives.so.file

    declared : IsServer script.roster (home g.fid.fileset)
    declared = subst (λ (f : Fid). IsServer script.roster (home f.fileset)) (sym file) tidy_t.declared

    at : home_at g.fid.fileset ≡ home t.fid.fileset
    at = home_is script.roster m running.tidy g.fid.fileset declared ∙ ap (λ (f : Fid). home f.fileset) file

    number : g.number ≡ last_counter m.gives.counters t.fid.fileset + 1
    number = gives.so.number

    tidy_g : IsTidyGive script.roster g
    tidy_g = record {
      from = let n = number in omega (arith, n);
      declared = declared;
      issued = λ i j. elim (subst (λ (xs : List TokenId). In i xs) gives.so.ids j) [
        | inl e ↦ ap (λ (x : TokenId). x.server) e ∙ tidy_t.issued ∙ ap (λ (f : Fid). home f.fileset) (sym file)
        | inr n ↦ elim n [ ]
      ];
      bytes = fits;
      size = size;
      ends = tt;
    }

    said : Message
    said = message_to m (home_at g.fid.fileset) (GiveBack g)

    tidy_after : ((u : Token) → In u (tokens_of new.cache.held) → In u (held_of m)) → IsTidy script.roster after_it
    tidy_after fewer = tidy_stays script.roster m after_it running.tidy (record {
      host_is = refl;
      servers = refl;
      held = λ u i. inl (fewer u i);
      sizes = size_left m.cache new.cache (t ∷ []) shown;
      leaving = λ y i. elim (in_either m.leaving (leaving_by g.fid.fileset g.number t ∷ []) y i) [
        | inl j ↦ inl j
        | inr j ↦ elim j [
          | inl e ↦ inr (subst (λ (x : Leaving). In x.token (held_of m)) (sym e) within)
          | inr n ↦ elim n [ ]
        ]
      ];
      gives = λ y k i e. elim (in_either m.gives.gives (message ∷ []) y i) [
        | inl j ↦ inl j
        | inr j ↦ elim j [
          | inl q ↦
              let p : GiveBack g ≡ GiveBack k = ap (λ (x : Message). x.body) (sym q) ∙ e in
              let same : g ≡ k = cc in inr (subst (IsTidyGive script.roster) same tidy_g)
          | inr n ↦ elim n [ ]
        ]
      ];
      fetch = λ f e. inl e;
      change = λ v c e. inl e;
      call = λ c e. inl e;
      homes = λ h i. inl i;
      floors = λ f i. inl i;
    })

    give_sound : IsSound script.roster (message_to m (home_at g.fid.fileset) (GiveBack g))
    give_sound = record {
      host = running.tidy.host;
      server = subst (IsServer script.roster) (sym at) tidy_t.declared;
      way = refl;
      apart = λ e. absurd (cc);
      moves = tt;
      body = record {
        number = tidy_g.from;
        home = λ e. home_number g.fid.fileset ∙ ap (λ (w : ServerId). w.0) (ap (λ (f : Fid). home f.fileset) file
            ∙ sym at);
        declared = subst (λ (xs : List TokenId). Each (λ (i : TokenId). IsServer script.roster i.server) xs)
            (sym gives.so.ids) (subst (IsServer script.roster) (sym tidy_t.issued) tidy_t.declared, tt);
        issued = λ e. subst (λ (xs : List TokenId). Each (λ (i : TokenId). i.server ≡ home_at g.fid.fileset) xs)
            (sym gives.so.ids) (tidy_t.issued ∙ sym at, tt);
        bytes = fits;
        size = size;
        ends = tt;
      };
    }

    -- with what is sent
    module _ (sent : List Message) (only : (y : Message) → In y sent → y ≡ message)
        (silent : (outstanding m.gives t.fid.fileset ≡ None) ⊎ (sent ≡ []))
        (there : outstanding m.gives t.fid.fileset ≡ None → In message sent) where
      abbrev s : Step
      s = leaves_own m.host Evict (g ∷ []) (leaves_by Evicted t ∷ []) sent

      right : StepRight script m after_it past s
      right = given_of.dirty_evicted script m past running t found.0 found.1 found.2 found.3 free many once sound
          new.cache dirty g number file gives.so.ids gives.so.pieces gives.so.length refl gives.cleans.bytes shown
          message refl sent (λ y i. ap (λ (x : Message). x.body) (only y i))
          (λ e. (message.epoch, (message, there e, at, refl, refl, refl)))
          (λ y i. subst (λ (x : Message). (x.epoch ≡ (site_at m.sites x.server).epoch) × (x.moves ≡ 0)
          × (x.server ≡ home t.fid.fileset)) (sym (only y i)) (refl, refl, at)) silent

      runs : RunsOn script m after_it past s
      runs = runs_on script m after_it past s right refl
          (tidy_after (λ u i. (given_of.kept_from script m past running t found.0 found.1 found.2 found.3 free many once
          sound new.cache dirty g number file gives.so.ids gives.so.pieces gives.so.length refl gives.cleans.bytes shown
          message refl u i).0)) running.ending (asks_none after_it free)
          (gone_on script m past s running refl)
          (λ y i. subst (IsSound script.roster) (sym (only y i)) give_sound)

    by_outstanding : (o : Option Message) → outstanding m.gives g.fid.fileset ≡ o
        → RunsOn script m new past (step_of (Host m.host) Evict after)
        × ((step_of (Host m.host) Evict after).cause ≡ Evict)
    by_outstanding None e =
        let k = after_is None e in
        let none : outstanding m.gives t.fid.fileset ≡ None =
        ap (λ (f : Fid). outstanding m.gives f.fileset) (sym file) ∙ e in
        subst (λ (q : Tables × Step). RunsOn script m q.0 past q.1 × (q.1.cause ≡ Evict))
        (λ i. (sym tables_are i, sym (ap (step_of (Host m.host) Evict) k.1) i)) (
          runs (message ∷ []) (λ y i. elim i [ inl q ↦ q | inr n ↦ elim n [ ] ]) (inl none) (λ z. inl refl),
          refl,
        )
    by_outstanding (Some y) e =
        let k = after_is (Some y) e in
        let some : outstanding m.gives t.fid.fileset ≡ Some y =
        ap (λ (f : Fid). outstanding m.gives f.fileset) (sym file) ∙ e in
        subst (λ (q : Tables × Step). RunsOn script m q.0 past q.1 × (q.1.cause ≡ Evict))
        (λ i. (sym tables_are i, sym (ap (step_of (Host m.host) Evict) k.1) i)) (
          runs [] (λ y i. elim i [ ]) (inr refl) (λ z. absurd (let p = sym z ∙ some in cc)),
          refl,
        )

  pub dirty_evicted : OwnRight Evict m new (step_of (Host m.host) Evict after)
  dirty_evicted script past running =
      by_outstanding gives.so.pieces.fit
      (subst (λ (o : Option ℕ). IfSome o (λ n. n ≤ FILE_BYTES_MAX)) (sym gives.so.length)
      (length_fits script.roster m running.tidy t.fid)) script past running (outstanding m.gives g.fid.fileset) refl
