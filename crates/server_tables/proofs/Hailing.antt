-- A line `restart` goes: the next epoch begins, and each live host is told of it.
use Rattle.std.proofs.Common.{◌≡◌, ℕ, suc, List, [], ◌∷◌, map, inl, inr, refl, sym, ◌∙◌, ap, subst}
use Rattle.base_types.specs.declared.ids.HostId.{HostId}
use Rattle.base_types.specs.declared.ids.Node.TheVariants.{Server}
use Rattle.tree_answers.specs.declared.tree.Tree.{Tree}
use Rattle.message_types.specs.declared.message.Body.{Body}
use Rattle.message_types.specs.declared.message.Body.TheVariants.{Bye, Change, Done, Down, GiveBack, Gone, Hello}
use Rattle.message_types.specs.declared.message.Body.TheVariants.{Reclaim, Reclaimed, Restarted, Revoke}
use Rattle.message_types.specs.declared.message.Message.{Message}
use Rattle.script_lines.specs.declared.script.Deed.TheVariants.{Restart as Restarts}
use Rattle.script_lines.specs.declared.script.Line.{Line}
use Rattle.script_lines.specs.declared.script.Script.{Script}
use Rattle.run_rules.specs.Doings.{Doing, HasReclaimed, HeardNow, IsLive, SentNow, TakenNow, after_step, epoch, sending}
use Rattle.run_rules.specs.Doings.Doing.{BeginsEpoch, Reserves, Sent}
use Rattle.run_rules.specs.Kept.{filesets_kept}
use Rattle.run_rules.specs.Past.{EachInTurn, EachOnce, In, appended}
use Rattle.run_rules.specs.ServerDue.{ServerAnswers, ServerDue}
use Rattle.run_rules.specs.ServerMay.{MaySend, OnlyAnswers, ServerMay}
use Rattle.run_rules.specs.ServerTokens.{ServerTokens}
use Rattle.run_rules.specs.Steps.{IsNextLine, bare, lines_of}
use Rattle.run_rules.specs.declared.step.Cause.TheVariants.{Restart}
use Rattle.run_rules.specs.declared.step.Step.{Step}
use Rattle.run_tokens.specs.ServerRest.{ServerMeets}
use Rattle.server_tables.specs.declared.recovering.Answered.{Answered}
use Rattle.server_tables.specs.declared.tables.Tables.{Tables}
use Rattle.server_tables.specs.Restarts.{restarted}
use Rattle.server_tables.specs.Standing.{AnsweredStand, IsSettled, Stands}
use Rattle.server_tables.specs.Steps.{to_host}
use Rattle.server_tables.proofs.Still.{IsStill, answered_still, still}
use Rattle.server_tables.proofs.Idle.{idle, no_words, reserves_nothing, says, up_to}
use Rattle.server_tables.proofs.Resting.{still_settled}
use Rattle.server_tables.proofs.Quiet.{blank_may, blank_word, reserves_may, word_tokens}
use Rattle.server_tables.proofs.Restarting.{answered_begun, settled_begun, stands_begun}
use Rattle.server_tables.proofs.Saying.{tells_restarted}

-- a host is told of the restart
abbrev pub hail : Tables → HostId → Message
hail y h = to_host y.server h y.hosts.epoch 0 Restarted

abbrev hails : Tables → HostId → Doing
hails y h = Sent h y.hosts.epoch 0 Restarted

hail_still : (past : List Doing) (y : Tables) (h : HostId) → Stands past y → IsStill y.server y.stamp past (hails y h)
hail_still past y h s = idle y.server y.stamp past (hails y h) (says h y.hosts.epoch 0 Restarted
    (blank_word Restarted (tells_restarted y.server past h 0).blank))
    (up_to past h y.hosts.epoch 0 Restarted s.hosts.epoch_is)

pub stands_hailed : (past : List Doing) (y : Tables) (hs : List HostId) → Stands past y → Stands (appended (sending
    (map (hail y) hs)) past) y
stands_hailed past y [] s = s
stands_hailed past y (h ∷ hs) s = stands_hailed (hails y h ∷ past) y hs (still past (hails y h) y
    (hail_still past y h s) s)

pub settled_hailed : (past : List Doing) (y : Tables) (hs : List HostId) → Stands past y → IsSettled y.server past
    → IsSettled y.server (appended (sending (map (hail y) hs)) past)
settled_hailed past y [] s z = z
settled_hailed past y (h ∷ hs) s z = settled_hailed (hails y h ∷ past) y hs (still past (hails y h) y
    (hail_still past y h s) s)
    (still_settled past (hails y h) y s (hail_still past y h s) z)

pub answered_hailed : (past : List Doing) (y : Tables) (hs : List HostId) {answers : List Answered} → Stands past y
    → AnsweredStand past answers
    → AnsweredStand (appended (sending (map (hail y) hs)) past) answers
answered_hailed past y [] s w = w
answered_hailed past y (h ∷ hs) s w = answered_hailed (hails y h ∷ past) y hs (still past (hails y h) y
    (hail_still past y h s) s)
    (answered_still past (hails y h) (hail_still past y h s).hosts w)

pub tokens_hailed : (past : List Doing) (y : Tables) (hs : List HostId) → Stands past y → EachInTurn
    (ServerTokens y.server) (sending (map (hail y) hs)) past
tokens_hailed past y [] s = tt
tokens_hailed past y (h ∷ hs) s = (
  word_tokens y.server past h y.hosts.epoch 0 Restarted s.hosts.epoch_is (tells_restarted y.server past h 0),
  tokens_hailed (hails y h ∷ past) y hs (still past (hails y h) y (hail_still past y h s) s),
)

pub sends_hailed : (tree : Tree) (step : Step) (past : List Doing) (y : Tables) (hs : List HostId) → EachInTurn
    (MaySend y.server tree step) (sending (map (hail y) hs)) past
sends_hailed tree step past y [] = tt
sends_hailed tree step past y (h ∷ hs) = (
  blank_may y.server tree step past h y.hosts.epoch 0 Restarted (tells_restarted y.server past h 0).blank,
  sends_hailed tree step (hails y h ∷ past) y hs,
)

pub in_hails : (y : Tables) (hs : List HostId) (n : Message) → In n (map (hail y) hs) → (h : HostId) × In h hs ×
    (n ≡ hail y h)
in_hails y [] n m = elim m [ ]
in_hails y (h ∷ hs) n (inl e) = (h, inl refl, e)
in_hails y (h ∷ hs) n (inr m) = let q = in_hails y hs n m in (q.0, inr q.1, q.2)

pub to_hails : (y : Tables) (hs : List HostId) (h : HostId) → In h hs → In (hail y h) (map (hail y) hs)
to_hails y [] h m = elim m [ ]
to_hails y (k ∷ ks) h (inl e) = inl (ap (hail y) e)
to_hails y (k ∷ ks) h (inr m) = inr (to_hails y ks h m)

pub once_hailed : (y : Tables) (hs : List HostId) → EachOnce hs → EachOnce (map (hail y) hs)
once_hailed y [] e = tt
once_hailed y (h ∷ hs) e = (
  (λ m. let q = in_hails y hs (hail y h) m in e.0 (subst (λ (z : HostId). In z hs)
      (sym (ap (λ (n : Message). n.host) q.2)) q.1)),
  once_hailed y hs e.1,
)

-- The step of a restart: `hs` are the live hosts, each once.
module _ (past : List Doing) (x : Tables) (s : Stands past x) (line : ℕ) (hs : List HostId) (each : (h : HostId)
    → In h hs → IsLive past h)
    (all : (h : HostId) → IsLive past h → In h hs) (apart : EachOnce hs) where
  abbrev y : Tables
  y = restarted x

  abbrev begun : List Doing
  begun = BeginsEpoch (suc (epoch past)) ∷ past

  abbrev ms : List Message
  ms = map (hail y) hs

  abbrev step : Step
  step = record (bare (Server x.server) (Restart line)) { sent = ms }

  abbrev told : List Doing
  told = appended (sending ms) begun

  sb : Stands begun y
  sb = stands_begun past x s

  st : Stands told y
  st = stands_hailed begun y hs sb

  zt : IsSettled x.server told
  zt = settled_hailed begun y hs sb (settled_begun past x s)

  kept_still : IsStill y.server y.stamp told (Reserves [])
  kept_still = idle y.server y.stamp told (Reserves []) reserves_nothing (no_words told)

  pub stands_restarted : Stands (after_step step past) y
  stands_restarted = still told (Reserves []) y kept_still st

  pub settled_restarted : IsSettled x.server (after_step step past)
  settled_restarted = still_settled told (Reserves []) y st kept_still zt

  pub answered_restarted : AnsweredStand (after_step step past) y.recovering.answers
  answered_restarted = answered_still told (Reserves []) kept_still.hosts (answered_hailed begun y hs sb
      (answered_begun past x s))

  says_restarted : (h : HostId) (d : Body) → SentNow step h d → In h hs × (Restarted ≡ d)
  says_restarted h d w = let q = in_hails y hs w.0 w.1 in (
    subst (λ (z : HostId). In z hs) (sym (ap (λ (n : Message). n.host) q.2) ∙ w.2) q.1,
    sym (ap (λ (n : Message). n.body) q.2) ∙ w.3,
  )

  unheard : (h : HostId) (d : Body) → HeardNow step h d → ⊥
  unheard h d w = let p = w.1 in cc

  untaken : (h : HostId) (n : ℕ) (d : Body) → TakenNow past step h n d → ⊥
  untaken h n d t = let p = t.0.1 in cc

  answers : ServerAnswers x.server past step
  answers = record {
    hello_old = λ h w. absurd (unheard h Hello w);
    hello = λ h w. absurd (unheard h Hello w);
    bye = λ h w. absurd (unheard h Bye w);
    late = λ h n p. absurd (cc);
    restarted = λ l h p lives. (hail y h, to_hails y hs h (all h lives), refl, refl);
    restarted_again = λ h p. absurd (cc);
    restarted_only = λ h w. (each h (says_restarted h Restarted w).0, inr (inr (inl (line, refl))));
    gone = λ h n g t. absurd (untaken h n (GiveBack g) t);
    gone_only = λ h n w. absurd (let p = (says_restarted h (Gone n) w).1 in cc);
    claim_now = λ h n claim took never l have. absurd ((settled_begun past x s).claims h n claim took (λ r. never
        (was h r)) l have);
    claim_again = λ h n claim t. absurd (untaken h n (Reclaim claim) t);
  }
    where
      was : (h : HostId) → HasReclaimed begun h → HasReclaimed past h
      was h r = absurd (elim ((stands_begun past x s).hosts.reclaimed_all h r) [ ])

  only_restarted : OnlyAnswers past step
  only_restarted = record {
    bye_only = λ h w. absurd (let p = (says_restarted h Bye w).1 in cc);
    reclaimed_only = λ h r w. absurd (let p = (says_restarted h (Reclaimed r) w).1 in cc);
  }

  pub may_restart : (script : Script) (start : Tree) (steps : List Step) → ServerMay script start x.server steps past
      step
  may_restart script start steps = record {
    tokens = record {
      writes = tt;
      admits = tt;
      sends = tokens_hailed begun y hs sb;
      reserves =
          reserves_may x.server told;
    };
    no_host = record { causes = (λ p. cc, λ p. cc); does_none = (refl, refl, refl, refl, refl, refl, refl) };
    answers = only_restarted;
    works = record {
      applies = record {
        given = λ h g f. absurd (untaken h f.0.0 (GiveBack g) f.0.1);
        down = λ h f. absurd (unheard h Down f.0);
        else_none = λ a b. refl;
        decided = refl;
        reserves = λ t i. elim i [ ];
      };
      decides = tt;
      sends = sends_hailed (filesets_kept start x.server steps) step begun y hs;
    };
  }

  pub due_restart : (script : Script) (start : Tree) (steps : List Step)
      → ((l : Line) × IsNextLine (lines_of script (Server x.server)) steps line l × (l.deed ≡ Restarts))
      → ServerDue script start x.server steps past step
  due_restart script start steps next = record {
    lines = record {
      bare = λ n p. absurd (cc);
      restarts = λ n p. let q : line ≡ n = cc in
          subst (λ (z : ℕ). (l : Line) × IsNextLine (lines_of script (Server x.server)) steps z l × (l.deed
          ≡ Restarts)) q next;
    };
    answers = answers;
    decided = record {
      news = λ h n r f. absurd (let p = f.taken.0.1 in cc);
      refused = λ w c refusal waits is so f. elim f [
        | inl r ↦ (settled_begun past x s).rested w waits r
        | inr g ↦
            (let p = g.1.taken.0.1 in cc)
      ];
      effects = λ w c waits is effect accepted r. (settled_begun past x s).rested w waits r;
      pinned = λ w c waits is row accepted r. (settled_begun past x s).rested w waits (inr r);
    };
    sent = record {
      once = once_hailed y hs apart;
      revokes_once = λ h r o i w. absurd (let p = (says_restarted h (Revoke r) w).1 in cc);
      written = λ w i. elim i [ ];
      repeats = λ h n c d f. absurd (untaken h n (Change c) f);
      dones_only = λ h d w. absurd (let p = (says_restarted h (Done d) w).1 in cc);
      grants = λ w f waits is g. settled_restarted.rested w waits (inl g);
      uses = λ w f waits is uses accepted g. settled_restarted.rested w waits (inl g);
      others = λ w f waits is uses accepted row r. settled_restarted.rested w waits r;
      enters = λ w f waits is enter accepted g. settled_restarted.rested w waits (inl g);
      revokes = settled_restarted.asked;
      revokes_again = λ t p. absurd (cc);
    };
  }

  pub meets_restart : (script : Script) (start : Tree) (steps : List Step)
      → ((l : Line) × IsNextLine (lines_of script (Server x.server)) steps line l × (l.deed ≡ Restarts))
      → ServerMeets script start x.server steps past step
  meets_restart script start steps next = record {
    may = may_restart script start steps;
    due =
        due_restart script start steps next;
  }
