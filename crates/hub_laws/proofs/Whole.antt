-- Whole runs at a board.
use Rattle.std.proofs.Common.{◌≡◌, ℕ, Bool, true, false, cond, eqb, eqb-true, eq-eqb, List, [], ◌∷◌, map, filter}
use Rattle.std.proofs.Common.{refl, sym, ap, ◌∙◌, subst, arith}
use Rattle.base_types.specs.declared.ids.Node.{Node}
use Rattle.base_types.specs.declared.ids.Node.TheVariants.{Host, Server}
use Rattle.base_types.specs.declared.ids.ServerId.{ServerId}
use Rattle.script_lines.specs.Sound.{same_node}
use Rattle.script_lines.specs.declared.script.Deed.{Deed}
use Rattle.script_lines.specs.declared.script.Deed.TheVariants.{Call, Raise as RaiseLine, Await as AwaitLine, Stop}
use Rattle.script_lines.specs.declared.script.Deed.TheVariants.{Restart as RestartLine}
use Rattle.script_lines.specs.declared.script.Line.{Line}
use Rattle.script_lines.specs.declared.script.Script.{Script}
use Rattle.run_rules.specs.Past.{Always, EachInTurn, appended}
use Rattle.run_rules.specs.Plans.{KeepsPlan}
use Rattle.run_rules.specs.Runs.{IsRaised, firsts_of}
use Rattle.run_rules.specs.Steps.{is_node, lines_of}
use Rattle.run_rules.specs.declared.step.Step.{Step}
use Rattle.hub_wire.proofs.Maps.{map_twice}
use Rattle.hub_board.specs.Follows.{follow_of, lines_of as followed_lines, mark_of, raise_of}
use Rattle.hub_board.specs.Hubs.{first_hub, nodes_of}
use Rattle.hub_board.specs.Turning.{steps_of}
use Rattle.hub_laws.specs.Keeping.{Round}
use Rattle.hub_board.specs.declared.given.Turn.{Turn}
use Rattle.run_rules.specs.declared.journal.Journal.{Journal}
use Rattle.hub_laws.proofs.Boards.{GivesSent}
use Rattle.hub_laws.specs.Laws.{CauseSent, AwaitIsMet, IsKept, KeptIsMet, KeptIsPlanned, KeptIsSent, KeptIsSound}
use Rattle.hub_laws.proofs.Causes.{all_own, causes_sent, gives_sound}
use Rattle.hub_laws.proofs.Embeds.{itself}
use Rattle.hub_laws.proofs.Followed.{at, at_here, at_later}
use Rattle.hub_laws.proofs.Lines.{raised_at}
use Rattle.hub_laws.proofs.Nodes.{node_same}
use Rattle.hub_laws.proofs.Members.{each_map}
use Rattle.hub_laws.proofs.Planned.{StepFits, Stands, planned_from}
use Rattle.hub_laws.proofs.Telling.{FollowIs, MarkIs, MarksAre, Tells, met_from}
use Rattle.hub_laws.proofs.Raising.{Followed, Follows, raises_from}

-- from each in order to all
pub always_after : {A : Type 0} (P : List A → A → Type 0) (xs past : List A) → Always P past → EachInTurn P xs past
    → Always P (appended xs past)
always_after P [] past h e = h
always_after P (x ∷ xs) past h e = always_after P xs (x ∷ past) (h, e.0) e.1

same_filter : {A : Type 0} (f g : A → Bool) → ((x : A) → f x ≡ g x) → (xs : List A) → filter f xs ≡ filter g xs
same_filter f g e [] = refl
same_filter f g e (x ∷ xs) =
    ap (λ b. cond b (x ∷ filter f xs) (filter f xs)) (e x) ∙ ap (λ l. cond (g x) (x ∷ l) l) (same_filter f g e xs)

eqb_sym : (a b : ℕ) → eqb a b ≡ eqb b a
eqb_sym a b = by_test (eqb a b) refl (eqb b a) refl
  where
    by_test : (x : Bool) → eqb a b ≡ x → (y : Bool) → eqb b a ≡ y → x ≡ y
    by_test true e true k = refl
    by_test true e false k =
        let clash : true ≡ false = sym (eq-eqb b a (sym (eqb-true a b e))) ∙ k in absurd (cc)
    by_test false e true k =
        let clash : true ≡ false = sym (eq-eqb a b (sym (eqb-true b a k))) ∙ e in absurd (cc)
    by_test false e false k = refl

same_test : (a b : Node) → same_node a b ≡ is_node b a
same_test (Host a) (Host b) = eqb_sym a.0 b.0
same_test (Host a) (Server b) = refl
same_test (Server a) (Host b) = refl
same_test (Server a) (Server b) = eqb_sym a.0 b.0

-- both say the same lines of a node
same_lines : (script : Script) (node : Node) → followed_lines script node ≡ lines_of script node
same_lines script (Host host) =
    ap (cond (eqb host.0 0) script.setup)
    (same_filter (λ (line : Line). same_node line.node (Host host)) (λ line. is_node (Host host) line.node)
    (λ line. same_test line.node (Host host)) script.lines)
same_lines script (Server server) =
    same_filter (λ (line : Line). same_node line.node (Server server)) (λ line. is_node (Server server) line.node)
    (λ line. same_test line.node (Server server)) script.lines

module _ (script : Script) where
  first_marks : (m n : Node) → m ≡ n → map raise_of (follow_of script m).marks ≡ map raised_at (lines_of script n)
  first_marks m n e =
      map_twice (λ (line : Line). mark_of line.deed) raise_of (followed_lines script m)
      ∙ ap (map raised_at) (same_lines script m ∙ ap (lines_of script) e)

  pub first_followed : (n : Node) (ms : List Node) → Followed script n [] (at (map (follow_of script) ms) n)
  first_followed n [] = tt
  first_followed n (m ∷ ms) = by_test (same_node m n) refl (first_followed n ms)
    where
      by_test : (b : Bool) → same_node m n ≡ b → Followed script n [] (at (map (follow_of script) ms) n)
          → Followed script n [] (at (map (follow_of script) (m ∷ ms)) n)
      by_test true e again =
          subst (Followed script n []) (sym (at_here (follow_of script m) (map (follow_of script) ms) n e))
          (record { gone = refl; marks = first_marks m n (node_same m n e) })
      by_test false e again =
          subst (Followed script n []) (sym (at_later (follow_of script m) (map (follow_of script) ms) n e)) again

abbrev pub nothing_known : Node → List Round
nothing_known n = []

-- each step fits, and what is given was sent
kept_fits : (script : Script) (rooms : List ServerId) (turns : List Turn) (journal : Journal)
    → IsKept script rooms turns journal
    → EachInTurn (StepFits script journal.start) (steps_of turns) [] × GivesSent (first_hub script rooms) turns []
kept_fits script rooms turns journal kept =
    let first = first_hub script rooms in
    let stands : Stands script journal.start rooms kept.due first [] nothing_known [] [] [] = record {
      net = record { rest = refl; packets = tt; due = itself (map Server rooms) };
      out = tt;
      raised = (λ flag i. absurd i);
      given = (λ n. tt);
      to = (λ n. tt);
      mine = (λ n. refl);
      lapses = (λ n. omega arith);
      lapsing = (λ n. refl);
    } in
    let follows : Follows script first nothing_known = record {
      each = (λ n. first_followed script n (nodes_of script));
      few = (λ n. omega arith);
    } in
    let raises = raises_from script turns first [] nothing_known follows kept.given kept.nodes in
    planned_from script journal.start rooms kept.due turns first [] nothing_known [] [] [] stands kept.given
    kept.nodes raises

-- what is given was sent
pub kept_gives_sent : (script : Script) (rooms : List ServerId) (turns : List Turn) (journal : Journal)
    → IsKept script rooms turns journal → GivesSent (first_hub script rooms) turns []
kept_gives_sent script rooms turns journal kept = (kept_fits script rooms turns journal kept).1

pub kept_is_planned : KeptIsPlanned
kept_is_planned script rooms turns journal kept =
    let fits = kept_fits script rooms turns journal kept in
    subst (λ steps. Always (KeepsPlan script journal.start) (appended steps [])) (sym kept.steps)
    (always_after (KeepsPlan script journal.start) (steps_of turns) [] tt
    (each_map (StepFits script journal.start) (KeepsPlan script journal.start) (λ past s f. f.plan) (steps_of turns)
    [] fits.0))

pub kept_is_sent : KeptIsSent
kept_is_sent script rooms turns journal kept =
    let fits = kept_fits script rooms turns journal kept in
    let Sent = λ (before : List Step) (s : Step). CauseSent (firsts_of journal) s.node before s in
    subst (λ steps. Always Sent (appended steps [])) (sym kept.steps)
    (always_after Sent (steps_of turns) [] tt
    (causes_sent script (firsts_of journal) journal.start (steps_of turns) [] tt
    (all_own script turns (first_hub script rooms) nothing_known kept.nodes) fits.0))

pub kept_is_sound : KeptIsSound
kept_is_sound script rooms turns journal kept =
    gives_sound script turns (first_hub script rooms) [] tt
    (all_own script turns (first_hub script rooms) nothing_known kept.nodes)
    (kept_fits script rooms turns journal kept).1

module _ (script : Script) where
  -- no line is known as raised
  plain_mark : (d : Deed) → MarkIs (IsRaised script []) (mark_of d)
  plain_mark (RaiseLine flag) = tt
  plain_mark (AwaitLine flag) = tt
  plain_mark (Call call) = tt
  plain_mark Stop = tt
  plain_mark RestartLine = tt

  plain_marks : (lines : List Line) → MarksAre (IsRaised script []) (map (λ (line : Line). mark_of line.deed) lines)
  plain_marks [] = tt
  plain_marks (line ∷ lines) = (plain_mark line.deed, plain_marks lines)

  first_told : (n : Node) (ms : List Node) → FollowIs (IsRaised script []) (at (map (follow_of script) ms) n)
  first_told n [] = tt
  first_told n (m ∷ ms) = by_test (same_node m n) refl (first_told n ms)
    where
      by_test : (b : Bool) → same_node m n ≡ b → FollowIs (IsRaised script []) (at (map (follow_of script) ms) n)
          → FollowIs (IsRaised script []) (at (map (follow_of script) (m ∷ ms)) n)
      by_test true e again =
          subst (FollowIs (IsRaised script [])) (sym (at_here (follow_of script m) (map (follow_of script) ms) n e))
          (plain_marks (followed_lines script m))
      by_test false e again =
          subst (FollowIs (IsRaised script [])) (sym (at_later (follow_of script m) (map (follow_of script) ms) n e))
          again

pub kept_is_met : KeptIsMet
kept_is_met script rooms turns journal kept =
    let first = first_hub script rooms in
    let follows : Follows script first nothing_known = record {
      each = (λ n. first_followed script n (nodes_of script));
      few = (λ n. omega arith);
    } in
    let raises = raises_from script turns first [] nothing_known follows kept.given kept.nodes in
    let tells : Tells script first [] nothing_known = record {
      marks = (λ n. first_told script n (nodes_of script));
      rounds = (λ n r i flag e. absurd i);
    } in
    subst (λ steps. Always (AwaitIsMet script) (appended steps [])) (sym kept.steps)
    (always_after (AwaitIsMet script) (steps_of turns) [] tt
    (met_from script turns first [] nothing_known tells kept.nodes raises))
