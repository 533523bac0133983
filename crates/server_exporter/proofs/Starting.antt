-- A machine that has done nothing.
use Rattle.std.proofs.Common.{◌≡◌, ℕ, [], true, refl, sym, subst, inl, inr}
use Rattle.base_types.specs.declared.ids.ServerId.{ServerId}
use Rattle.tree_calls.specs.declared.roster.Roster.{Roster}
use Rattle.run_rules.specs.Doings.{doings_of}
use Rattle.server_tables.specs.Counting.{IsCounted}
use Rattle.server_tables.specs.Starts.{starting}
use Rattle.server_tables.specs.declared.tables.Tables.{Tables}
use Rattle.server_tables.proofs.SoundTables.{starting_sound}
use Rattle.server_tables.proofs.Starting.{answered_first, settled_first, stands_first}
use Rattle.server_exporter.specs.Machines.{IsNew}
use Rattle.server_exporter.specs.declared.exporter.Exporter.{Exporter}
use Rattle.server_exporter.proofs.Resting.{quiet_settled, rested_settled}

abbrev pub fresh_machine : Tables → Exporter
fresh_machine x = record { tables = x; rested = true }

pub is_new : (server : ServerId) (epoch : ℕ) (roster : Roster) (x : Tables) → x ≡ starting server epoch roster
    → IsCounted x
    → IsNew (fresh_machine x) server epoch roster
is_new server epoch roster x e c = subst (λ (y : Tables). IsCounted y
    → IsNew (fresh_machine y) server epoch roster) (sym e) by c
  where
    by : IsCounted (starting server epoch roster)
        → IsNew (fresh_machine (starting server epoch roster)) server epoch roster
    by c = record {
      server_is = refl;
      roster_is = refl;
      gives = refl;
      pending = refl;
      counted = c;
      sound = starting_sound server epoch roster;
      rested = refl;
      stands = λ tree. record {
        tables = stands_first server epoch roster;
        once = tt;
        known = λ h i. elim i [ ];
        gives = λ l m i. elim i [ ];
        changes = λ l m i. elim i [ ];
        enters = λ p c i. elim i [ ];
        homes = λ t m. elim m [ ];
        answered = answered_first server epoch roster;
        claims = λ k i. elim i [ ];
        told = record {
          claims = λ h n r s. absurd (elim s [ inl p ↦ (cc) | inr p ↦ p ]);
          since = λ h n b s. absurd (elim s [ inl p ↦ (cc) | inr p ↦ p ]);
          unsaid = λ w k n d q is s. absurd (elim s [ inl p ↦ (cc) | inr p ↦ p ]);
        };
        quiet = quiet_settled server (doings_of epoch server []) (settled_first server epoch roster) tree;
        rested = λ _. rested_settled server (doings_of epoch server []) (settled_first server epoch roster) tree;
      };
    }
