-- A line that isn't `restart` goes: nothing else happens.
use Rattle.std.proofs.Common.{◌≡◌, ℕ, true, List, [], ◌∷◌, inl, inr, refl, sym, subst}
use Rattle.base_types.specs.declared.ids.HostId.{HostId}
use Rattle.base_types.specs.declared.ids.ServerId.{ServerId}
use Rattle.base_types.specs.declared.ids.Node.TheVariants.{Server}
use Rattle.tree_answers.specs.declared.tree.Tree.{Tree}
use Rattle.message_types.specs.declared.message.Body.{Body}
use Rattle.message_types.specs.declared.message.Body.TheVariants.{Bye, Change, Done, Down, GiveBack, Gone, Hello}
use Rattle.message_types.specs.declared.message.Body.TheVariants.{Reclaim, Reclaimed, Restarted, Revoke}
use Rattle.script_lines.specs.declared.script.Deed.TheVariants.{Restart as Restarts}
use Rattle.script_lines.specs.declared.script.Line.{Line}
use Rattle.script_lines.specs.declared.script.Script.{Script}
use Rattle.run_rules.specs.Doings.{Doing, HeardNow, SentNow, TakenNow}
use Rattle.run_rules.specs.Doings.Doing.{Reserves}
use Rattle.run_rules.specs.Kept.{filesets_kept}
use Rattle.run_rules.specs.ServerDue.{ServerAnswers, ServerDue}
use Rattle.run_rules.specs.ServerMay.{ServerMay}
use Rattle.run_rules.specs.Steps.{IsNextLine, bare, lines_of}
use Rattle.run_rules.specs.declared.step.Cause.TheVariants.{Line as LineOf}
use Rattle.run_rules.specs.declared.step.Step.{Step}
use Rattle.run_tokens.specs.ServerRest.{ServerMeets}
use Rattle.server_tables.specs.declared.tables.Tables.{Tables}
use Rattle.server_tables.proofs.Idle.{idle, no_words, reserves_nothing}
use Rattle.server_tables.proofs.Quiet.{reserves_may}
use Rattle.server_tables.proofs.Still.{IsStill, answered_still, still}
use Rattle.server_exporter.specs.Machines.{FollowsAlone, IsAt, IsNoRestart, IsRested, MeetsOnLine}
use Rattle.server_exporter.specs.declared.exporter.Exporter.{Exporter}
use Rattle.server_exporter.proofs.Resting.{claims_wait, even_still, quiet_even, rested_even}
use Rattle.server_exporter.proofs.Tolds.{told_next}

-- a step in which nothing is applied or sent ends by that the exporter keeps nothing
pub ends_still : (past : List Doing) (x : Tables) → IsStill x.server x.stamp past (Reserves [])
ends_still past x = idle x.server x.stamp past (Reserves []) reserves_nothing (no_words past)

pub at_end : (past : List Doing) (tree : Tree) (x : Exporter) → IsAt past tree x → IsAt (Reserves [] ∷ past) tree x
at_end past tree x z =
    let c = ends_still past x.tables in
    let e = even_still past (Reserves []) x.tables z.tables c in
    record {
      tables = still past (Reserves []) x.tables c z.tables;
      once = z.once;
      known = z.known;
      gives = z.gives;
      changes = z.changes;
      enters = z.enters;
      homes = z.homes;
      answered = answered_still past (Reserves []) c.hosts z.answered;
      claims = claims_wait past (Reserves []) c.hosts.calm x.tables.recovering.claims z.claims;
      told = told_next x.tables.server past (Reserves []) c.hosts.calm.begin (λ h k n r p. absurd (cc))
          (λ w k n d p. absurd (cc)) z.told;
      quiet = quiet_even x.tables.server past (Reserves []) e z.tables.tokens.none_reserved tree z.quiet;
      rested = λ r. rested_even x.tables.server past (Reserves []) e z.tables.tokens.none_reserved tree (z.rested r);
    }

module _ (script : Script) (start : Tree) (steps : List Step) (past : List Doing) (x : Exporter) (number : ℕ) where
  abbrev server : ServerId
  server = x.tables.server

  abbrev tree : Tree
  tree = filesets_kept start server steps

  abbrev step : Step
  step = bare (Server server) (LineOf number)

  unsaid : (h : HostId) (d : Body) → SentNow step h d → ⊥
  unsaid h d w = elim w.1 [ ]

  unheard : (h : HostId) (d : Body) → HeardNow step h d → ⊥
  unheard h d w = let p = w.1 in cc

  untaken : (h : HostId) (n : ℕ) (d : Body) → TakenNow past step h n d → ⊥
  untaken h n d t = let p = t.0.1 in cc

  module _ (z : IsAt past tree x) (r : IsRested server tree past) where
    answers : ServerAnswers server past step
    answers = record {
      hello_old = λ h w. absurd (unheard h Hello w);
      hello = λ h w. absurd (unheard h Hello w);
      bye = λ h w. absurd (unheard h Bye w);
      late = λ h n p. absurd (cc);
      restarted = λ l h p. absurd (cc);
      restarted_again = λ h p. absurd (cc);
      restarted_only = λ h w. absurd (unsaid h Restarted w);
      gone = λ h n g t. absurd (untaken h n (GiveBack g) t);
      gone_only = λ h n w. absurd (unsaid h (Gone n) w);
      claim_now = λ h n claim took never l have. absurd (z.quiet.claims h n claim took never l have);
      claim_again = λ h n claim t. absurd (untaken h n (Reclaim claim) t);
    }

    may : ServerMay script start server steps past step
    may = record {
      tokens = record { writes = tt; admits = tt; sends = tt; reserves = reserves_may server past };
      no_host = record { causes = (λ p. cc, λ p. cc); does_none = (refl, refl, refl, refl, refl, refl, refl) };
      answers = record {
        bye_only = λ h w. absurd (unsaid h Bye w);
        reclaimed_only = λ h a w. absurd (unsaid h (Reclaimed a) w);
      };
      works = record {
        applies = record {
          given = λ h g f. absurd (untaken h f.0.0 (GiveBack g) f.0.1);
          down = λ h f. absurd (unheard h Down f.0);
          else_none = λ a b. refl;
          decided = refl;
          reserves = λ t i. elim i [ ];
        };
        decides = tt;
        sends = tt;
      };
    }

    module _ (line : Line) (next : IsNextLine (lines_of script (Server server)) steps number line) (other : line.deed
        ≡ Restarts → ⊥) where
      due : ServerDue script start server steps past step
      due =
          let q = (at_end past tree x z).quiet in
          record {
            lines = record {
              bare = λ n p. (
                refl,
                (let e : number
                    ≡ n = cc in subst (λ (k : ℕ). (l : Line) × IsNextLine (lines_of script (Server server)) steps k l
                    × (l.deed ≡ Restarts → ⊥)) e (line, next, other)),
              );
              restarts = λ n p. absurd (cc);
            };
            answers = answers;
            decided = record {
              news = λ h n a f. absurd (let p = f.taken.0.1 in cc);
              refused = λ w c refusal waits is so f. elim f [
                | inl d ↦ r.refused w c refusal waits is so d
                | inr g ↦
                    (let p = g.1.taken.0.1 in cc)
              ];
              effects = r.effects;
              pinned = r.pinned;
            };
            sent = record {
              once = tt;
              revokes_once = λ h a o i w. absurd (unsaid h (Revoke a) w);
              written = λ w i. elim i [ ];
              repeats = λ h n c d f. absurd (untaken h n (Change c) f);
              dones_only = λ h d w. absurd (unsaid h (Done d) w);
              grants = q.grants;
              uses = q.uses;
              others = q.others;
              enters = q.enters;
              revokes = q.asked;
              revokes_again = λ t p. absurd (cc);
            };
          }

      pub line_so : ServerMeets script start server steps past step
      line_so = record { may = may; due = due }

pub line_meets : (x : Exporter) (number : ℕ) (s : Step) → x.rested ≡ true → s
    ≡ bare (Server x.tables.server) (LineOf number) → MeetsOnLine IsNoRestart number x s
unfolding MeetsOnLine
line_meets x number s rested e =
    subst (MeetsOnLine IsNoRestart number x) (sym e) (λ script start steps past z line next other.
    line_so script start steps past x number z (z.rested rested) line next other)

pub line_follows : (x : Exporter) (number : ℕ) (s : Step) → s ≡ bare (Server x.tables.server) (LineOf number)
    → FollowsAlone x s x
unfolding FollowsAlone
line_follows x number s e = subst (λ (t : Step). FollowsAlone x t x) (sym e) (λ start steps past z.
    at_end past (filesets_kept start x.tables.server steps) x z)
