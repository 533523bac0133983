-- The journal is planned and ended, and no run.
use Rattle.std.proofs.Common.{[], ap, arith, inl, inr, refl, subst, sym, suc, zero, ℕ, ◌≤◌, ◌∙◌, ◌∷◌, ◌≡◌, ◌⊎◌}
use Rattle.base_types.specs.declared.ids.HostId.{HostId}
use Rattle.base_types.specs.declared.ids.ServerId.{ServerId}
use Rattle.base_types.specs.declared.ids.Node.TheVariants.{Host, Server}
use Rattle.message_types.specs.declared.message.Body.TheVariants.{Hello, Change, Reclaimed}
use Rattle.message_types.specs.declared.message.Message.{Message}
use Rattle.std.proofs.Common.{length}
use Rattle.tree_answers.specs.WellFormed.{IsWellFormed}
use Rattle.tree_answers.specs.declared.tree.Tree.{Tree}
use Rattle.run_rules.specs.Doings.{HasGoneAway, Listed, doings_of}
use Rattle.run_rules.specs.HostMay.{HostMay}
use Rattle.run_rules.specs.Messages.{HasGreeted, IsWelcome}
use Rattle.run_rules.specs.Past.{In}
use Rattle.run_rules.specs.Plans.{IsPlanned, KeepsPlan}
use Rattle.run_rules.specs.Runs.{HostIsDone, IsEnded, IsRun, IsValid, TakesPart, firsts_of, past_of}
use Rattle.run_rules.specs.ServerMay.{ServerMay}
use Rattle.run_rules.specs.Steps.{lines_gone, lines_of, servers_of, setup, steps_of_server}
use Rattle.run_rules.specs.declared.step.Cause.TheVariants.{Line, Message as Came, Lapse, Restart}
use Rattle.run_tokens.specs.Worked.{client, site_one, welcome}
use Rattle.run_examples.specs.Unanswered.{Unanswered, asks, asks_it, bare_tree, change, journal, restart_script, tells}
use Rattle.run_examples.specs.Unanswered.{tells_it, unasked}

-- why it is no run

not_told : ServerMay restart_script bare_tree site_one [] (doings_of 1 site_one []) tells → ⊥
not_told may = elim (may.answers.reclaimed_only setup welcome (tells_it (Reclaimed welcome), inl refl, refl, refl)) [
  | inl x ↦ let p : Restart 6 ≡ Came x.0.0 = x.0.1 in cc
  | inr (inl x) ↦ elim x.1 [ ]
  | inr (inr x) ↦ let p : Restart 6 ≡ Came x.2.0.0 = x.2.0.1 in cc
]

none_said : (v : ServerId) → HasGreeted (unasked ∷ []) v → ⊥
none_said v (e, n, inl (m, is, sv, ev, nv, body)) = elim is [ ]
none_said v (e, n, inr o) = elim o [ ]

none_before : (v : ServerId) → HasGreeted [] v → ⊥
none_before v (e, n, o) = elim o [ ]

not_welcome : IsWelcome (asks ∷ unasked ∷ []) site_one → ⊥
not_welcome (inl (greeted, more)) = none_said site_one greeted
not_welcome (inr (inl (greeted, more))) = none_before site_one greeted
not_welcome (inr (inr o)) = elim o [ ]

not_asked : HostMay restart_script setup (unasked ∷ []) asks → ⊥
not_asked may = not_welcome
    (may.asks.changes_welcome site_one 2 0 change (asks_it (Change change), inl refl, refl, refl, refl, refl))

start_is : (a b : Tree) → a ∷ [] ≡ b ∷ [] → a ≡ b
start_is a b e = cc

no_run : IsRun restart_script journal → ⊥
no_run run =
    let is : run.start ≡ bare_tree = start_is run.start bare_tree (sym run.starts) in
    not_told (subst (λ (t : Tree). ServerMay restart_script t site_one [] (doings_of 1 site_one []) tells) is
    run.steps.0.0.1.0.0)

-- the tree
formed : IsWellFormed bare_tree
formed = record {
  roster = refl;
  servers = refl;
  ordered = refl;
  named = refl;
  declared = refl;
  given = refl;
  filesets = tt;
  clones = refl;
  away = record { ordered = refl; named = refl; free = refl; declared = refl; elsewhere = refl };
  counted = λ server. omega arith;
  promised = λ server room e. omega arith;
  numbers = refl;
  locks = refl;
  opens = refl;
}

valid : IsValid bare_tree
valid = record { well_formed = formed; at_rest = refl; locks = refl; opens = refl; unmoved = refl; at_home = refl }

-- hosts are done: each line has gone, and nobody was greeted
none_greeted : (v : ServerId) → HasGreeted (asks ∷ unasked ∷ []) v → ⊥
none_greeted v (e, n, inl (m, inl is, sv, ev, nv, body)) =
    let q : Change change ≡ Hello = ap (λ (z : Message). z.body) (sym is) ∙ body in cc
none_greeted v (e, n, inl (m, inr is, sv, ev, nv, body)) = elim is [ ]
none_greeted v (e, n, inr (inl (m, is, sv, ev, nv, body))) = elim is [ ]
none_greeted v (e, n, inr (inr o)) = elim o [ ]

setup_done : HostIsDone restart_script setup (past_of journal)
setup_done = (refl, inr (λ v g. absurd (none_greeted v g)))

client_done : HostIsDone restart_script client (past_of journal)
client_done = (refl, inr (λ v g. elim g.2 [ ]))

host_of : (host : HostId) (n : ℕ) → host.0 ≡ n → host ≡ record { 0 = n }
host_of host n e = λ i. record { 0 = e i }

one_of_two : (n : ℕ) → n ≤ 1 → (n ≡ 0) ⊎ (n ≡ 1)
one_of_two zero le = inl refl
one_of_two (suc zero) le = inr refl
one_of_two (suc (suc n)) le = absurd (let k : suc (suc n) ≤ 1 = le in omega (arith, k))

hosts_done : (host : HostId) → TakesPart restart_script (Host host) → HostIsDone restart_script host (past_of journal)
hosts_done host e = elim (one_of_two host.0 e) [
  | inl p ↦ subst (λ h. HostIsDone restart_script h (past_of journal)) (sym (host_of host 0 p)) setup_done
  | inr p ↦ subst (λ h. HostIsDone restart_script h (past_of journal)) (sym (host_of host 1 p)) client_done
]

-- the server knows no host
none_listed : (host : HostId) → Listed (doings_of 1 site_one (past_of journal)) host → ⊥
none_listed host (inl ((e, n, q), a, b)) = cc
none_listed host (inr (inl ((e, n, q), a, b))) = cc
none_listed host (inr (inr (inl ((e, n, q), a, b)))) = cc
none_listed host (inr (inr (inr (inl ((e, n, q), a, b))))) = cc
none_listed host (inr (inr (inr (inr o)))) = elim o [ ]

the_site : (server : ServerId) → In server (servers_of restart_script.roster) → server ≡ site_one
the_site server (inl e) = e
the_site server (inr e) = elim e [ ]

ended : IsEnded restart_script journal
ended = record {
  hosts = hosts_done;
  lines = λ server i.
      subst (λ v. lines_gone (steps_of_server v (past_of journal)) ≡ length (lines_of restart_script (Server v))) (sym (the_site server i)) refl;
  servers = λ server host i.
      subst (λ v. Listed (doings_of (firsts_of journal v) v (past_of journal)) host → HasGoneAway (doings_of (firsts_of journal v) v (past_of journal)) host)
      (sym (the_site server i)) (λ l. absurd (none_listed host l));
}

-- the plan
the_cause : (m : Message) → unasked.cause ≡ Came m → tells_it (Reclaimed welcome) ≡ m
the_cause m c = let p : Came (tells_it (Reclaimed welcome)) ≡ Came m = c in cc

planned : IsPlanned restart_script journal
planned = (((tt, first), second), third)
  where
    first : KeepsPlan restart_script (bare_tree ∷ []) [] tells
    first = record {
      copies = λ m n k c. absurd (let p : Restart 6 ≡ Came m = c in cc);
      lapses = λ n k c. absurd (let p : Restart 6 ≡ Lapse = c in cc);
    }

    second : KeepsPlan restart_script (bare_tree ∷ []) (tells ∷ []) unasked
    second = record {
      copies = λ m n k c cn ck. elim cn [
        | inl x ↦ elim x.1.2 [
          | inl y ↦ absurd (let p : Restart 6 ≡ Came m = y.0 in cc)
          | inr y ↦ elim ck [
            | inl z ↦ (let a = x.1.1 in let b = y.1 in let d = z.1.1 in omega (arith, a, b, d))
            | inr z ↦ absurd (z.0 (the_cause m c, tt))
          ]
        ]
        | inr x ↦ absurd (x.0 c)
      ];
      lapses = λ n k c. absurd (let p : Came (tells_it (Reclaimed welcome)) ≡ Lapse = c in cc);
    }

    third : KeepsPlan restart_script (bare_tree ∷ []) (unasked ∷ tells ∷ []) asks
    third = record {
      copies = λ m n k c. absurd (let p : Line 4 ≡ Came m = c in cc);
      lapses = λ n k c. absurd (let p : Line 4 ≡ Lapse = c in cc);
    }

pub unanswered : Unanswered
unanswered = record {
  sound = record {
    servers = refl;
    roster = refl;
    setup = refl;
    lines = refl;
    stops = refl;
    flags = refl;
    numbers = refl;
    count = omega arith;
    plan = refl;
    net = refl;
  };
  valid = valid;
  planned = planned;
  ended = ended;
  open_is = inl refl;
  none = refl;
  told = not_told;
  asked = not_asked;
  no_run = no_run;
}
