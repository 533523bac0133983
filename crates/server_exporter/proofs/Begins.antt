-- A line `restart` goes.
use Rattle.std.proofs.Common.{◌≡◌, ℕ, ◌+◌, true, List, [], ◌∷◌, inl, inr}
use Rattle.std.proofs.Common.{nat_lt, refl, sym, ◌∙◌, ap, subst, arith, add-one}
use Rattle.std.proofs.lemmas.Bool.{and_from, and_parts}
use Rattle.base_types.specs.declared.ids.HostId.{HostId}
use Rattle.base_types.specs.declared.ids.ServerId.{ServerId}
use Rattle.base_types.specs.declared.ids.Node.TheVariants.{Server}
use Rattle.tree_answers.specs.declared.tree.Tree.{Tree}
use Rattle.script_lines.specs.declared.script.Line.{Line}
use Rattle.script_lines.specs.declared.script.Script.{Script}
use Rattle.store_acts.specs.Acts.{act_done}
use Rattle.store_acts.specs.declared.act.Act.TheVariants.{Epoch}
use Rattle.store_state.specs.declared.state.StoreState.{StoreState}
use Rattle.token_manager.specs.Grants.{no_grants}
use Rattle.token_manager.specs.Managers.{Manager, after_forget, grants_forgotten, is_later, queue_forgotten}
use Rattle.run_rules.specs.Doings.{Doing, IsLive, after_step, sending, epoch, SentTo}
use Rattle.run_rules.specs.Kept.{filesets_kept}
use Rattle.message_types.specs.Soundness.{IsHost}
use Rattle.run_rules.specs.Past.{EachOnce, In, appended}
use Rattle.run_rules.specs.Steps.{IsNextLine, lines_of}
use Rattle.run_rules.specs.declared.step.Cause.TheVariants.{Flushed, Restart}
use Rattle.run_rules.specs.declared.step.Step.{Step}
use Rattle.run_tokens.specs.ServerRest.{ServerMeets}
use Rattle.server_decides.proofs.Acting.{drafts_stand}
use Rattle.server_decides.proofs.Numbers.{numbers_stay}
use Rattle.server_decides.specs.Acts.{epoch_begun}
use Rattle.server_tables.specs.Answers.{AreLastChanges}
use Rattle.server_tables.specs.Gives.{AreLast, last_give}
use Rattle.server_tables.specs.Listing.{is_live}
use Rattle.server_tables.specs.Restarts.{restarted}
use Rattle.server_tables.specs.Standing.{Stands}
use Rattle.server_tables.specs.Updates.{begun}
use Rattle.server_tables.specs.declared.tables.Tables.{Tables}
use Rattle.server_tables.proofs.Hailing.{answered_restarted, meets_restart, settled_restarted, stands_restarted}
use Rattle.server_tables.proofs.Listed.{is_live_all, live_is}
use Rattle.server_tables.proofs.Without.{in_filter, to_filter}
use Rattle.server_decides.specs.Hailing.{hailing, needs_hail, restarting, to_hail}
use Rattle.server_decides.specs.Drafts.{no_draft, step_of, word}
use Rattle.server_exporter.specs.Machines.{Follows, IsAt, IsRestart, Keeps, MeetsOnLine}
use Rattle.server_exporter.specs.declared.exporter.Exporter.{Exporter}
use Rattle.server_exporter.proofs.Resting.{once_filter, quiet_settled, rested_settled}
use Rattle.server_exporter.specs.Machines.{AreTold}
use Rattle.run_rules.specs.Doings.Doing.{BeginsEpoch, Reserves}
use Rattle.message_types.specs.declared.message.Message.{Message}
use Rattle.message_types.specs.declared.message.Body.TheVariants.{Reclaimed, Restarted, Done}
use Rattle.std.specs.Prelude.{map, suc}
use Rattle.server_tables.proofs.Settling.{of_map}
use Rattle.server_exporter.proofs.Tolds.{told_plain, told_next}
use Rattle.message_types.specs.declared.message.Body.{Body}

later : (n m : ℕ) → n ≡ m → nat_lt n (m + 1) ≡ true
later n m e = subst (λ (k : ℕ). nat_lt k (m + 1) ≡ true) (sym e) (grind arith)

forgot : (m : Manager) (e : ℕ) → is_later m e ≡ true → after_forget m e
    ≡ record m { grants = no_grants m.grants.table.server e; queue = [] }
unfolding grants_forgotten queue_forgotten
forgot m e l = rw l refl

-- the tables of a server that begins an epoch, by the calls and by the lemmas
pub begun_is : (past : List Doing) (x : Tables) → Stands past x → begun x ≡ restarted x
begun_is past x s =
    let e : x.tokens.grants.table.epoch ≡ x.hosts.epoch = s.tokens.epoch_is ∙ sym s.hosts.epoch_is in
    let l : is_later x.tokens (x.hosts.epoch + 1) ≡ true = later x.tokens.grants.table.epoch x.hosts.epoch e in
    let with_tokens : Manager → Tables = λ m. record x {
      hosts = record x.hosts { epoch = x.hosts.epoch + 1; listed_now = []; reclaimed = [] };
      tokens = m;
      pending = [];
      stamp = 0;
      recovering = record { claims = []; taken = []; given_up = []; answers = [] };
    } in
    let at : ServerId → ℕ → Tables = λ v n. record x {
      hosts = record x.hosts { epoch = n; listed_now = []; reclaimed = [] };
      tokens = record x.tokens { grants = no_grants v n; queue = [] };
      pending = [];
      stamp = 0;
      recovering = record { claims = []; taken = []; given_up = []; answers = [] };
    } in
    ap with_tokens (forgot x.tokens (x.hosts.epoch + 1) l)
    ∙ ap (λ (v : ServerId). at v (x.hosts.epoch + 1)) s.tokens.server_is
    ∙ ap (at x.server) (add-one x.hosts.epoch)

module _ (past : List Doing) (x : Tables) (s : Stands past x) (o : EachOnce x.hosts.listed) where
  abbrev y : Tables
  y = restarted x

  abbrev hs : List HostId
  hs = to_hail y

  each : (h : HostId) → In h hs → IsLive past h
  each h m =
      let p = in_filter (needs_hail y) h y.hosts.listed m in
      live_is past x.hosts s.hosts h (and_parts (is_live x.hosts h) true p.1).0

  all : (h : HostId) → IsLive past h → In h hs
  all h l = to_filter (needs_hail y) h y.hosts.listed (s.hosts.listed_all h l.0)
      (and_from (is_live x.hosts h) true (is_live_all past x.hosts s.hosts h l) refl)

  apart : EachOnce hs
  apart = once_filter (needs_hail y) y.hosts.listed o

  abbrev step : ℕ → Step
  step line = step_of x.server (Restart line) (hailing y no_draft)

  pub restart_so : (line : ℕ) (script : Script) (start : Tree) (steps : List Step) (l : Line)
      → IsNextLine (lines_of script (Server x.server)) steps line l → IsRestart l
      → ServerMeets script start x.server steps past (step line)
  restart_so line script start steps l next is =
      meets_restart past x s line hs each all apart script start steps (l, next, is)

  -- nothing was said in the epoch that begins
  unsaid_begun : (h : HostId) (n : ℕ) (b : Body)
      → SentTo (BeginsEpoch (suc (epoch past)) ∷ past) h (suc (epoch past)) n b → ⊥
  unsaid_begun h n b (inl p) = cc
  unsaid_begun h n b (inr p) = let l = s.hosts.sent_up_to h (suc (epoch past)) n b p in omega (arith, l)

  told_begun : AreTold x.server (BeginsEpoch (suc (epoch past)) ∷ past)
  told_begun = record {
    claims = λ h n r p. absurd (unsaid_begun h n (Reclaimed r) p);
    since = λ h n b p. absurd (unsaid_begun h n b p);
    unsaid = λ w c n d q is p. absurd (unsaid_begun w.host n (Done d) p);
  }

  abbrev told_all : List Doing
  told_all = appended (sending (map (λ (h : HostId). word y h Restarted) hs)) (BeginsEpoch (suc (epoch past)) ∷ past)

  told_then : AreTold x.server told_all
  told_then = told_plain x.server (map (λ (h : HostId). word y h Restarted) hs) (BeginsEpoch (suc (epoch past)) ∷ past)
      (λ m i r e. (let q = of_map (λ (h : HostId). word y h Restarted) m hs i in
      let p : Restarted ≡ Reclaimed r = ap (λ (n : Message). n.body) q.2 ∙ e in cc)) told_begun

  pub restart_at : (line : ℕ) (tree : Tree) → AreLast x.gives → AreLastChanges x.changes
      → ((h : HostId) → In h x.hosts.listed → IsHost x.roster h)
      → IsAt (after_step (step line) past) tree (record { tables = y; rested = true })
  restart_at line tree gives changes known =
      let z = settled_restarted past x s line hs each all apart in
      record {
        tables = stands_restarted past x s line hs each all apart;
        once = o;
        known = known;
        gives = gives;
        changes = changes;
        enters = λ p c i. elim i [ ];
        homes = λ t m. elim m [ ];
        answered = answered_restarted past x s line hs each all apart;
        claims = λ k i. elim i [ ];
        told = told_next x.server told_all (Reserves []) (λ w. let p = w.1 in cc) (λ h k n r p. absurd (cc))
            (λ w k n d p. absurd (cc)) told_then;
        quiet = quiet_settled x.server (after_step (step line) past) z tree;
        rested = λ _. rested_settled x.server (after_step (step line) past) z tree;
      }

pub restart_meets : (x : Exporter) (line : ℕ) (step : Step) → step ≡ restarting x.tables line
    → MeetsOnLine IsRestart line x step
unfolding MeetsOnLine
restart_meets x line step e = subst (MeetsOnLine IsRestart line x) (sym e) (λ script start steps past z l next is.
    subst (λ (y : Tables). ServerMeets script start x.tables.server steps past
    (step_of x.tables.server (Restart line) (hailing y no_draft)))
    (sym (begun_is past x.tables z.tables))
    (restart_so past x.tables z.tables z.once line script start steps l next is))

-- its store keeps what it kept
pub keeps_begun : (x : Tables) (tree : Tree) (state : StoreState) → Keeps x tree state
    → Keeps (begun x) tree (epoch_begun state)
unfolding act_done
keeps_begun x tree state k = record {
  stands = drafts_stand.epoch Flushed tree [] state k.stands;
  homes = k.homes;
  taken = numbers_stay.gives (last_give x.gives) 0 state Epoch tt k.taken;
  epoch = ap (λ (n : ℕ). n + 1) k.epoch;
}

pub restart_follows : (x y : Exporter) (state next : StoreState) (line : ℕ) (step : Step) → step
    ≡ restarting x.tables line
    → y ≡ record { tables = begun x.tables; rested = true } → next ≡ epoch_begun state → Follows state x step next y
unfolding Follows
restart_follows x y state next line step e f g start steps past z k =
    let v = x.tables.server in
    let tree = filesets_kept start v steps in
    let b = begun_is past x.tables z.tables in
    let P : Step → Exporter → StoreState
    → Type 0 = λ s w n. IsAt (after_step s past) (filesets_kept start v (s ∷ steps)) w
    × Keeps w.tables (filesets_kept start v (s ∷ steps)) n in
    let at : (w : Tables) → begun x.tables ≡ w
    → IsAt (after_step (step_of v (Restart line) (hailing w no_draft)) past) tree
    (record { tables = w; rested = true })
    → IsAt (after_step (restarting x.tables line) past) tree (record { tables = begun x.tables; rested = true })
    = λ w q h. subst (λ (u : Tables). IsAt (after_step (step_of v (Restart line) (hailing u no_draft)) past) tree
    (record { tables = u; rested = true })) (sym q) h in
    let r : P (restarting x.tables line) (record { tables = begun x.tables; rested = true }) (epoch_begun state)
    = (
      at (restarted x.tables) b (restart_at past x.tables z.tables z.once line tree z.gives z.changes z.known),
      keeps_begun x.tables tree state k,
    ) in
    subst (λ (s : Step). P s y next) (sym e) (subst (λ (w : Exporter). P (restarting x.tables line) w next) (sym f)
    (subst (P (restarting x.tables line) (record { tables = begun x.tables; rested = true })) (sym g) r))
