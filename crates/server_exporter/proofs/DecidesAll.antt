-- A decision keeps what holds while a step decides: a Change is written down, or its want is made anew.
use Rattle.std.proofs.Common.{◌≡◌, ◌≢◌, ◌≤◌, ℕ, Bool, true, false, List, [], ◌∷◌, ◌++◌, Option, if◌then◌else◌, inl, inr}
use Rattle.std.proofs.Common.{length, refl, sym, ◌∙◌, ap, subst}
use Rattle.base_types.specs.declared.ids.ServerId.{ServerId}
use Rattle.base_types.specs.declared.limits.TheConstants.{NEEDS_MAX}
use Rattle.tree_answers.specs.declared.tree.Tree.{Tree}
use Rattle.tree_calls.specs.declared.reply.Reply.{Reply}
use Rattle.token_types.specs.declared.token.Need.{Need}
use Rattle.message_types.specs.declared.asking.Change.{Change as ChangeOf}
use Rattle.run_rules.specs.Doings.{Doing, NoGrace, after_cause, deciding, decisions_of}
use Rattle.run_rules.specs.Doings.Doing.{MakesWant, WritesDown}
use Rattle.run_rules.specs.Kept.{filesets_through}
use Rattle.run_rules.specs.Past.{appended}
use Rattle.run_rules.specs.ServerDecides.{DecidedSo, IsAnew}
use Rattle.run_rules.specs.Wants.{Decides, IsQueued, needs_for}
use Rattle.run_rules.specs.declared.applied.Applied.{Applied}
use Rattle.run_rules.specs.declared.applied.Applied.TheVariants.{Done as IsDone, Wants as IsWanted}
use Rattle.run_rules.specs.declared.applied.Request.TheVariants.{Change as Changes}
use Rattle.run_rules.specs.declared.applied.Wanted.{Wanted}
use Rattle.run_rules.specs.declared.step.Cause.{Cause}
use Rattle.server_tables.specs.Updates.{enqueued, unqueued}
use Rattle.server_tables.specs.declared.pending.Pending.{Pending}
use Rattle.server_tables.specs.declared.tables.Tables.{Tables}
use Rattle.server_tables.proofs.Drafting.{append_end, decided_one}
use Rattle.server_tables.proofs.Numbered.{Rise}
use Rattle.server_tables.proofs.Unqueued.{it_waits}
use Rattle.server_decides.specs.Drafts.{wanting}
use Rattle.server_decides.specs.Taking.{Made, wanted_for}
use Rattle.server_decides.specs.Draft.{Draft}
use Rattle.server_decides.specs.Deciding.{IsPlaced, is_fresh, still_fresh}
use Rattle.server_decides.specs.Writing.{written_made, written_of}
use Rattle.server_exporter.proofs.Decisions.{AreMute, IsDeciding, all_end, anew_deciding, decided_by, mute_more}
use Rattle.server_exporter.proofs.Decisions.{one_more_end, said_by, wants_more, writes_more, written_deciding}
use Rattle.server_exporter.proofs.Making.{anew_stands, as_sent, made_stands, words_back}

-- one decision more stands before all that was decided
pub decided_end : (begun : List Doing) (applied : List Applied) (a : Applied) (x : Doing) → decisions_of a ≡ x ∷ []
    → appended (deciding (applied ++ a ∷ [])) begun ≡ x ∷ appended (deciding applied) begun
decided_end begun applied a x e =
    ap (λ l. appended l begun) (decided_one applied a x e) ∙ append_end (deciding applied) x begun

module _ (server : ServerId) (cause : Cause) (tree : Tree) (past : List Doing) (base more : List Applied) (x : Tables)
    (d : Draft) (g : IsDeciding server cause tree past base more x d) (rise : Rise x.pending) where
  module _ (p : Pending) (c : ChangeOf) (is : p.wanted.request ≡ Changes c)
      (over : NoGrace (said_by server cause tree past d)) where
    abbrev w : Wanted
    w = p.wanted

    -- the want at a place is written down with a reply that has a reason
    module _ (at : ℕ) (place : IsPlaced x.pending at p) (reply : Reply)
        (so : DecidedSo server (filesets_through cause d.applied tree) (said_by server cause tree past d) w c reply)
      where
        waits : IsQueued (said_by server cause tree past d) w
        waits = g.stands.wants.pending p
            (it_waits (said_by server cause tree past d) x g.stands rise at p place.0 place.1)

        abbrev both : Made
        both = written_made (unqueued x at p.number) d w.host c reply

        pub written_keeps : IsDeciding server cause tree past base (more ++ IsDone (written_of w.host c reply) ∷ [])
            both.tables both.draft
        written_keeps = record {
          server_is = g.server_is;
          applied = ap (λ l. l ++ IsDone (written_of w.host c reply) ∷ []) g.applied
              ∙ one_more_end server cause tree past base more (IsDone (written_of w.host c reply));
          admitted = g.admitted;
          stands = made_stands cause past x d g.stands rise at p place c is over reply;
          mute = subst (λ l. AreMute server l both.draft.sent)
              (sym (decided_end (after_cause cause past) d.applied (IsDone (written_of w.host c reply))
              (WritesDown (written_of w.host c reply)) refl))
              (mute_more server cause tree past base more x d g w waits c is reply so);
          none = g.none;
          all = all_end server cause tree past more (IsDone (written_of w.host c reply)) g.all refl;
          writes = writes_more server cause tree past base more x d g w waits c is reply so;
          may = written_deciding server cause tree past base more x d g w waits c is reply so;
        }

    -- its want is made anew
    module _ (at : ℕ) (place : IsPlaced x.pending at p) (needs : List Need) (differs : p.wanted.needs ≢ needs)
        (few : length needs ≤ NEEDS_MAX) (number : ℕ)
        (anew : IsAnew server (filesets_through cause d.applied tree) (said_by server cause tree past d) w
        (wanted_for w.host w.request needs))
        (needs_is : needs ≡ needs_for (filesets_through cause d.applied tree) w.host w.request) where
      abbrev new : Wanted
      new = wanted_for w.host w.request needs

      old_waits : IsQueued (said_by server cause tree past d) w
      old_waits = g.stands.wants.pending p
          (it_waits (said_by server cause tree past d) x g.stands rise at p place.0 place.1)

      abbrev drafted : Draft
      drafted = wanting d new number

      -- the new one is decided by no word, as the old one isn't
      still_mute : AreMute server (MakesWant new ∷ decided_by server cause tree past d) d.sent
      still_mute = record {
        brings = g.mute.brings;
        decides = λ m i u q o. elim q [
          | inl e ↦ g.mute.decides m i w (words_back d.sent (decided_by server cause tree past d) w old_waits)
              (subst (λ (v : Wanted). Decides (as_sent m) v.host v.request) (same_want u e) o)
          | inr e ↦ g.mute.decides m i u e.0 o
        ];
      }
        where
          same_want : (u : Wanted) → MakesWant new ≡ MakesWant u → u ≡ new
          same_want u e = cc

      pub anew_keeps : IsDeciding server cause tree past base (more ++ IsWanted new ∷ [])
          (enqueued (unqueued x at p.number) new) drafted
      anew_keeps = record {
        server_is = g.server_is;
        applied = ap (λ l. l ++ IsWanted new ∷ []) g.applied
            ∙ one_more_end server cause tree past base more (IsWanted new);
        admitted = g.admitted;
        stands = anew_stands cause past x d g.stands rise at p place c is over needs differs few;
        mute = subst (λ l. AreMute server l d.sent)
            (sym (decided_end (after_cause cause past) d.applied (IsWanted new) (MakesWant new) refl)) still_mute;
        none = g.none;
        all = all_end server cause tree past more (IsWanted new) g.all refl;
        writes = wants_more server cause tree past base more x d g w new old_waits anew needs_is;
        may = anew_deciding server cause tree past base more x d g w new old_waits anew needs_is;
      }

-- which want is the step's own is no matter
pub fresh_keeps : (server : ServerId) (cause : Cause) (tree : Tree) (past : List Doing) (base more : List Applied)
    (x : Tables) (d : Draft) (fresh : Option ℕ) (number : ℕ) → IsDeciding server cause tree past base more x d
    → IsDeciding server cause tree past base more x (still_fresh fresh number d)
fresh_keeps server cause tree past base more x d fresh number g = by (is_fresh fresh number)
  where
    by : (b : Bool) → IsDeciding server cause tree past base more x (if b then d else record d { fresh = fresh })
    by true = g
    by false = record {
      server_is = g.server_is;
      applied = g.applied;
      admitted = g.admitted;
      stands = g.stands;
      mute = g.mute;
      none = g.none;
      all = g.all;
      writes = g.writes;
      may = g.may;
    }
