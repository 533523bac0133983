-- What is due of a step in which a token is evicted.
use Rattle.base_types.specs.declared.ids.FilesetId.{FilesetId}
use Rattle.base_types.specs.declared.ids.Node.TheVariants.{Host}
use Rattle.host_cache.specs.Holding.{IsOnce, is_idle}
use Rattle.host_gives.specs.Giving.{IsSound as IsSoundGives, outstanding}
use Rattle.host_leaves.specs.Giving.{leaves_by}
use Rattle.host_leaves.specs.Sending.{message_to}
use Rattle.host_manager.proofs.Evicted.{after_is, after_it, g as give_of, message as giving, tables_are}
use Rattle.host_manager.proofs.Evicting.{draft_is}
use Rattle.host_manager.proofs.Evictions.{evicts_it, oldest_in}
use Rattle.host_manager.proofs.News.{IsNews, news_only, none_is_open, silent_calls}
use Rattle.host_manager.specs.Closing.{EvictsIt, oldest_of}
use Rattle.host_manager.specs.Due.{OwnDue}
use Rattle.host_tables.proofs.Lists.{in_right}
use Rattle.host_tables.specs.Drafts.{no_draft, step_of}
use Rattle.host_manager.specs.Running.{IsRunning, RunsOn}
use Rattle.host_tables.specs.Tables.{held_of}
use Rattle.host_tables.specs.Updates.{home_at}
use Rattle.host_tables.specs.declared.draft.Draft.{Draft}
use Rattle.host_tables.specs.declared.tables.Tables.{Tables}
use Rattle.message_types.specs.declared.giving.Give.{Give}
use Rattle.message_types.specs.declared.message.Body.TheVariants.{GiveBack, Hello, Returned}
use Rattle.message_types.specs.declared.message.Message.{Message}
use Rattle.run_rules.specs.HostDue.{HostDue}
use Rattle.run_rules.specs.Past.{EachOnce, In}
use Rattle.run_rules.specs.declared.applied.Leave.{Leave}
use Rattle.run_rules.specs.declared.applied.Why.TheVariants.{Evicted}
use Rattle.run_rules.specs.declared.step.Cause.TheVariants.{Evict}
use Rattle.run_rules.specs.declared.step.Step.{Step}
use Rattle.script_lines.specs.declared.script.Script.{Script}
use Rattle.std.proofs.Common.{Bool, List, None, Option, Some, [], ap, cond, false, filter, if◌then◌else◌, inl, inr}
use Rattle.std.proofs.Common.{is_none, length, refl, subst, sym, true, ◌<◌, ◌∙◌, ◌∷◌, ◌≡◌}
use Rattle.token_types.specs.declared.token.Token.{Token}

-- a step that drops this token, and says at most one message, which is news
module _ (script : Script) (m new : Tables) (past : List Step) (t : Token) (made : List Give) (sent : List Message)
    (due : List FilesetId) (running : IsRunning script m past) (free : m.call ≡ None) where
  abbrev its : Draft
  its = record no_draft { made = made; dropped = leaves_by Evicted t ∷ []; sent = sent; due = due }

  abbrev s : Step
  s = step_of (Host m.host) Evict its

  pub one_evicted : RunsOn script m new past s → In t (held_of m) → EachOnce sent → EachOnce made
      → ((y : Message) → In y sent → IsNews m new y.server y.body)
      → ((y : Message) → In y sent → y.body ≡ Hello → ⊥) → HostDue script m.host past s
  one_evicted runs held once once_made says hello = record {
    stance = runs.may.stance;
    calls = silent_calls script m past s runs.may.stance
        (none_is_open script m past running.rests.stands free) refl refl hello;
    revokes = λ r i a. absurd (let p = a.1 in cc);
    repeats = news_only script m new past s running runs (λ y e. let p = e in cc) (λ e. let p = e in cc) free says;
    leaves = record {
      held = λ l i. elim i [
        | inl e ↦ inr (running.rests.stands.cache.held l.token
            (subst (λ (z : Leave). In z.token (held_of m)) (sym e) held))
        | inr n ↦ elim n [ ]
      ];
      evicts = λ e. ((runs.may.leaves.leaves (leaves_by Evicted t) (inl refl)).1, (leaves_by Evicted t, refl));
      ends = λ e. absurd (let p = e in cc);
      ends_all = λ l e. absurd (let p = e in cc);
    };
    once = once;
    once_taken = tt;
    once_dropped = ((λ i. i), tt);
    once_made = once_made;
  }

module _ (m new : Tables) (after : Draft) (t : Token) (free : m.call ≡ None)
    (many : m.limit < length (filter is_idle m.cache.held)) (once : IsOnce m.cache.held)
    (sound : IsSoundGives m.gives) (oldest : oldest_of m ≡ Some t) (its : EvictsIt m no_draft t new after) where
  runs : (script : Script) (past : List Step) → IsRunning script m past
      → RunsOn script m new past (step_of (Host m.host) Evict after)
  runs script past running = (evicts_it m new after t free many once sound oldest its script past running).0

  -- nothing is dirty under it: a Returned goes
  clean_due : its.leaves.giving ≡ [] → OwnDue m (step_of (Host m.host) Evict after)
  clean_due none script past running =
      let is = draft_is m new after t free many once oldest its none in
      let y : Message = message_to new (home_at t.fid.fileset) (Returned (record { fid = t.fid; ids = t.id ∷ [] })) in
      subst (λ (d : Draft). HostDue script m.host past (step_of (Host m.host) Evict d)) (sym is)
      (one_evicted script m new past t [] (y ∷ []) [] running free
      (subst (λ (d : Draft). RunsOn script m new past (step_of (Host m.host) Evict d)) is (runs script past running))
      (oldest_in m t oldest) ((λ i. i), tt) tt
      (λ z i. elim i [
        | inl e ↦ subst (λ (x : Message). IsNews m new x.server x.body) (sym e) tt
        | inr n ↦ elim n [ ]
      ])
      (λ z i h. elim i [
        | inl e ↦ let p = ap (λ (x : Message). x.body) (sym e) ∙ h in absurd (cc)
        | inr n ↦ elim n [ ]
      ]))

  -- a give-back is made, and goes where none of its fileset is outstanding
  module _ (all : its.leaves.giving ≡ t ∷ []) where
    abbrev g : Give
    g = give_of m new after t free many once sound oldest its all

    abbrev left : Tables
    left = after_it m new after t free many once sound oldest its all

    abbrev sent_by : Option Message → List Message
    sent_by o = if is_none o then message_to left (home_at g.fid.fileset) (GiveBack g) ∷ [] else []

    by_outstanding : (o : Option Message) → outstanding m.gives g.fid.fileset ≡ o
        → OwnDue m (step_of (Host m.host) Evict after)
    by_outstanding o e script past running =
        let k = after_is m new after t free many once sound oldest its all o e in
        subst (λ (d : Draft). HostDue script m.host past (step_of (Host m.host) Evict d)) (sym k.1)
        (one_evicted script m new past t (g ∷ []) (sent_by o) k.0 running free
        (subst (λ (d : Draft). RunsOn script m new past (step_of (Host m.host) Evict d)) k.1 (runs script past running))
        (oldest_in m t oldest) (sent_once o) ((λ i. i), tt) (news o e) (no_hello o))
      where
        sent_once : (o : Option Message) → EachOnce (sent_by o)
        sent_once None = ((λ i. i), tt)
        sent_once (Some y) = tt

        there : In (giving m new after t free many once sound oldest its all) new.gives.gives
        there = subst (λ (x : Tables). In (giving m new after t free many once sound oldest its all) x.gives.gives)
            (sym (tables_are m new after t free many once sound oldest its all))
            (in_right m.gives.gives (giving m new after t free many once sound oldest its all ∷ [])
            (giving m new after t free many once sound oldest its all) (inl refl))

        news : (o : Option Message) → outstanding m.gives g.fid.fileset ≡ o → (y : Message) → In y (sent_by o)
            → IsNews m new y.server y.body
        news None e y (inl q) = subst (λ (x : Message). IsNews m new x.server x.body) (sym q)
            (e, (giving m new after t free many once sound oldest its all, there, refl))
        news None e y (inr n) = elim n [ ]
        news (Some z) e y i = elim i [ ]

        no_hello : (o : Option Message) → (y : Message) → In y (sent_by o) → y.body ≡ Hello → ⊥
        no_hello None y (inl q) h = let p = ap (λ (x : Message). x.body) (sym q) ∙ h in absurd (cc)
        no_hello None y (inr n) h = elim n [ ]
        no_hello (Some z) y i h = elim i [ ]

    dirty_due : OwnDue m (step_of (Host m.host) Evict after)
    dirty_due = by_outstanding (outstanding m.gives g.fid.fileset) refl

  pub evict_due : OwnDue m (step_of (Host m.host) Evict after)
  evict_due = by_dirty (its.leaves.which.test t) its.leaves.which.some
    where
      by_dirty : (b : Bool) → its.leaves.giving ≡ cond b (t ∷ []) [] → OwnDue m (step_of (Host m.host) Evict after)
      by_dirty true all = dirty_due all
      by_dirty false none = clean_due none
