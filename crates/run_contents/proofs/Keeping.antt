-- In every run what servers keep is well formed, with nothing unsaved.
use Rattle.std.proofs.Common.{◌≡◌, ℕ, ◌≤◌, ◌||◌, ◌&&◌, nat_le, nat_lt, Bool, true, false, if◌then◌else◌, Some, None}
use Rattle.std.proofs.Common.{is_some, List, [], ◌∷◌, ◌++◌, Option, length, map, inl, inr, sym, ◌∙◌, ap, subst, refl}
use Rattle.std.proofs.Common.{arith}
use Rattle.std.proofs.lemmas.Bool.{and_parts, false≢true}
use Rattle.std.proofs.lemmas.Grind.{common_steps}
use Rattle.std.specs.List.{list_all}
use Rattle.std.specs.Option.{option_map, option_map_or}
use Rattle.std.specs.Prelude.{IfSome, not}
use Rattle.base_types.specs.declared.ids.Fid.{Fid}
use Rattle.base_types.specs.declared.ids.HostId.{HostId}
use Rattle.base_types.specs.declared.ids.Node.{Node}
use Rattle.base_types.specs.declared.ids.Node.TheVariants.{Host, Server}
use Rattle.base_types.specs.declared.ids.ServerId.{ServerId}
use Rattle.base_types.specs.declared.limits.TheConstants.{FILE_BYTES_MAX}
use Rattle.base_types.specs.declared.span.Span.{Span}
use Rattle.base_types.specs.declared.user.User.{User}
use Rattle.tree_calls.specs.Limits.{keeps_limit}
use Rattle.tree_calls.specs.Rosters.{user_of}
use Rattle.tree_calls.specs.declared.call.Call.{Call}
use Rattle.tree_calls.specs.declared.reply.Refusal.{Refusal}
use Rattle.tree_calls.specs.declared.reply.Reply.{Reply}
use Rattle.tree_calls.specs.declared.reply.Reply.TheVariants.{Ok as Fine, Refused}
use Rattle.tree_filesets.specs.WellFormed.{is_at_rest, is_settled}
use Rattle.tree_filesets.specs.declared.fileset.Fileset.{Fileset}
use Rattle.need_host.specs.Questions.{is_change}
use Rattle.tree_objects.specs.Changes.{anode_changed, content_changed}
use Rattle.tree_objects.specs.declared.content.Anode.{Anode}
use Rattle.tree_objects.specs.declared.content.Content.{Content}
use Rattle.tree_objects.specs.declared.content.Content.TheVariants.{Dir, File}
use Rattle.tree_objects.specs.declared.content.Object.{Object}
use Rattle.tree_answers.proofs.Kept.{formed_answer}
use Rattle.tree_answers.specs.Answers.{answer_for, answer_to, for_user}
use Rattle.tree_answers.specs.Finding.{Answer}
use Rattle.tree_answers.specs.declared.tree.Tree.{Tree}
use Rattle.need_server.proofs.Alike.{changes_are_alike}
use Rattle.need_server.proofs.Resting.{rest_fileset}
use Rattle.need_server.proofs.Settled.{kept_is_settled}
use Rattle.need_server.specs.Kept.{content_settled, kept_fileset, kept_tree}
use Rattle.need_server.specs.Laws.{NothingUnsaved}
use Rattle.need_server.specs.Wants.{want}
use Rattle.message_types.specs.Soundness.{IsBody, IsGiveBack}
use Rattle.message_types.specs.declared.asking.Change.{Change as ChangeOf}
use Rattle.message_types.specs.declared.giving.Ends.{Ends as EndsOf}
use Rattle.message_types.specs.declared.giving.Give.{Give}
use Rattle.message_types.specs.declared.message.Body.{Body}
use Rattle.message_types.specs.declared.message.Body.TheVariants.{Change, GiveBack}
use Rattle.message_types.specs.declared.message.Message.{Message}
use Rattle.script_lines.specs.declared.script.Script.{Script}
use Rattle.token_types.specs.declared.token.Need.{Need}
use Rattle.tree_laws.specs.Parts.{Cell, Seen, cell_at}
use Rattle.run_rules.specs.Doings.{Doing, TookNow, after_cause, doings_of}
use Rattle.run_rules.specs.Doings.Doing.{MakesWant, Took, WritesDown}
use Rattle.run_rules.specs.Kept.{filesets_after, filesets_first, filesets_kept, filesets_through, is_refusal}
use Rattle.run_rules.specs.Kept.{pieces_in, takes_gifts, tree_given}
use Rattle.run_rules.specs.Messages.{Said}
use Rattle.run_rules.specs.Past.{In}
use Rattle.run_rules.specs.Runs.{StepMeets, StepsMeet, firsts_of, past_of}
use Rattle.run_rules.specs.ServerDecides.{DecidedSo, FirstDown, FirstGiven, IsWrittenSo, MayDecideAll, by_cause}
use Rattle.run_rules.specs.ServerDecides.{decisions, ended_by, is_decision, span_of, stored_of}
use Rattle.run_rules.specs.ServerDecides.DecidedSo.{IsRefusedByTable, MeetsPinned, TakesEffect}
use Rattle.run_rules.specs.Steps.{is_node, steps_of_host, steps_of_server}
use Rattle.run_rules.specs.Wants.{IsQueued, body_of, has_effect, is_use, moves_fileset}
use Rattle.run_rules.specs.declared.applied.Applied.TheVariants.{Done as IsDone, IsDown, Replied, Stored}
use Rattle.run_rules.specs.declared.applied.Applied.TheVariants.{Moves as IsMoved, Wants as IsWanted}
use Rattle.run_rules.specs.declared.applied.Request.TheVariants.{Change as Changes}
use Rattle.run_contents.proofs.Grants.{AllTaken, Heard, all_taken, causes, taken_took, wanted, written_down}
use Rattle.run_contents.proofs.KeptGives.{both, gives_keep}
use Rattle.run_contents.proofs.Servers.{cause_heard, heard, took_in}
use Rattle.run_contents.proofs.Sound.{change_sound, said_sound}
use Rattle.run_contents.proofs.Starts.{starts_kept}
use Rattle.run_contents.specs.Gives.{IsKept}
use Rattle.run_contents.specs.Keeping.{ServersKeepWell}
use Rattle.run_tokens.proofs.Words.{if_server}
use Rattle.run_rules.specs.declared.applied.Answer.{Answer as AnswerOf}
use Rattle.run_rules.specs.declared.applied.Applied.{Applied}
use Rattle.run_rules.specs.declared.applied.Wanted.{Wanted}
use Rattle.run_rules.specs.declared.applied.Written.{Written}
use Rattle.run_rules.specs.declared.step.Cause.{Cause}
use Rattle.run_rules.specs.declared.step.Cause.TheVariants.{Message as Came}
use Rattle.run_rules.specs.declared.step.Step.{Step}

-- a tree of which nothing is unsaved is what is kept of it, and the other way round
kept_all : (filesets : List Fileset) → list_all is_at_rest filesets ≡ true → map kept_fileset filesets ≡ filesets
kept_all [] h = refl
kept_all (x ∷ xs) h =
    let q = and_parts (is_at_rest x) (list_all is_at_rest xs) h in
    ap (λ y. y ∷ map kept_fileset xs) (rest_fileset x q.0) ∙ ap (λ ys. x ∷ ys) (kept_all xs q.1)

is_kept_tree : (tree : Tree) → list_all is_at_rest tree.filesets ≡ true → kept_tree tree ≡ tree
is_kept_tree tree h = ap (λ filesets. record tree { filesets = filesets }) (kept_all tree.filesets h)

rests_content : (content : Content) → is_settled (content_settled content) ≡ true
rests_content (Dir entries lists) = refl
rests_content (File list kept unsaved len) = refl

rests_anodes : (anodes : List Anode)
    → list_all (λ anode. option_map_or (λ object. is_settled object.content) anode.object true)
    (map (anode_changed content_settled) anodes) ≡ true
rests_anodes [] = refl
rests_anodes (anode ∷ anodes) =
    both _ _ (by anode.object) (rests_anodes anodes)
  where
    by : (o : Option Object) → option_map_or (λ object. is_settled object.content)
        (option_map (content_changed content_settled) o) true ≡ true
    by None = refl
    by (Some object) = rests_content object.content

rests_all : (filesets : List Fileset) → list_all is_at_rest (map kept_fileset filesets) ≡ true
rests_all [] = refl
rests_all (x ∷ xs) = both _ _ (rests_anodes x.anodes) (rests_all xs)

-- a Change leaves such a tree
module _ (tree : Tree) (k : IsKept tree) (host : HostId) (call : Call) where
  nothing : (needs : List Need) → NothingUnsaved tree needs
  nothing needs fid part shown =
      ap (λ (t : Tree). (cell_at t fid part).unsaved) (sym (is_kept_tree tree k.rests))
      ∙ ap (λ (c : Cell (Seen part)). c.unsaved) (kept_is_settled tree fid part)

  rests_user : (user : User) → user_of tree.roster host ≡ Some user → is_change call ≡ true
      → list_all is_at_rest (answer_to tree host call).tree.filesets ≡ true
  rests_user user is_user change =
      let alike = changes_are_alike tree host user call k.formed is_user change (nothing (want tree user call)) in
      let same : (answer_to tree host call).tree ≡ kept_tree (answer_to tree host call).tree =
      ap (λ (t : Tree). (answer_to t host call).tree) (sym (is_kept_tree tree k.rests))
      ∙ ap (λ (a : Answer). a.tree) alike in
      subst (λ (t : Tree). list_all is_at_rest t.filesets ≡ true) (sym same)
      (rests_all (answer_to tree host call).tree.filesets)

  rests_nobody : user_of tree.roster host ≡ None
      → list_all is_at_rest (answer_to tree host call).tree.filesets ≡ true
  unfolding answer_to
  rests_nobody e =
      subst (λ (o : Option User). list_all is_at_rest (for_user tree o (answer_for tree host call)).tree.filesets ≡ true)
      (sym e) k.rests

  rests_answer : is_change call ≡ true → list_all is_at_rest (answer_to tree host call).tree.filesets ≡ true
  rests_answer change = go (user_of tree.roster host) refl
    where
      go : (o : Option User) → user_of tree.roster host ≡ o
          → list_all is_at_rest (answer_to tree host call).tree.filesets ≡ true
      go (Some user) e = rests_user user e change
      go None e = rests_nobody e

  pub answer_kept : keeps_limit call ≡ true → is_change call ≡ true → IsKept (answer_to tree host call).tree
  answer_kept limit change = record {
    formed = formed_answer tree host call k.formed limit;
    rests = rests_answer change;
  }

-- what is refused changes nothing
after_reply : (tree : Tree) (x : AnswerOf) → IsKept tree
    → (is_refusal x.reply ≡ false → (keeps_limit x.call ≡ true) × (is_change x.call ≡ true))
    → IsKept (if is_refusal x.reply then tree else (answer_to tree x.host x.call).tree)
after_reply tree x k so = go (is_refusal x.reply) refl
  where
    go : (b : Bool) → is_refusal x.reply ≡ b → IsKept (if b then tree else (answer_to tree x.host x.call).tree)
    go true e = k
    go false e = let q = so e in answer_kept tree k x.host x.call q.0 q.1

refused_is : (reply : Reply) (refusal : Refusal) → reply ≡ Refused refusal → is_refusal reply ≡ false → ⊥
refused_is reply refusal e f = false≢true (sym f ∙ ap is_refusal e)

has_effect_enters : (c : ChangeOf) → has_effect c ≡ true → c.enter ≡ false
has_effect_enters c e = go c.enter refl e
  where
    go : (b : Bool) → c.enter ≡ b → (not b && not (is_use c.call) && not (moves_fileset c.call)) ≡ true → c.enter ≡ false
    go true q e = absurd (false≢true e)
    go false q e = q

same_change : (c d : ChangeOf) → Change c ≡ Change d → c ≡ d
same_change c d e = cc

-- the decisions of a step
module _ (script : Script) (start : Tree) (firsts : ServerId → ℕ) (past : List Step)
    (run : StepsMeet script start firsts past) (v : ServerId) (s : Step) where
  abbrev before : List Doing
  before = doings_of (firsts v) v past

  abbrev AllSaid : List Doing → Type 0
  AllSaid S = (h : HostId) (e n : ℕ) (b : Body) → In (Took h e n b) S → Said (steps_of_host h past) v e n b

  on_said : (S : List Doing) (a : Doing) → ((h : HostId) (e n : ℕ) (b : Body) → Took h e n b ≡ a → ⊥) → AllSaid S
      → AllSaid (a ∷ S)
  on_said S a never old h e n b (inl q) = absurd (never h e n b q)
  on_said S a never old h e n b (inr i) = old h e n b i

  -- a Change that waits is sound
  pub waits_sound : (S : List Doing) → AllTaken S → AllSaid S → (w : Wanted) (c : ChangeOf) → IsQueued S w
      → w.request ≡ Changes c → (keeps_limit c.call ≡ true) × (c.enter ≡ false → is_change c.call ≡ true)
  waits_sound S taken said w c waits is =
      let took : TookNow S w.host w.moves (Change c) =
      subst (λ r. TookNow S w.host w.moves (body_of r)) is (taken w waits) in
      let i = took_in S w.host w.moves (Change c) took in
      change_sound script v c (said_sound script start firsts w.host v i.0 w.moves (Change c) past run
      (said w.host i.0 w.moves (Change c) i.1))

  -- so is one that is written down and not refused
  pub written_sound : (tree : Tree) (S : List Doing) → AllTaken S → AllSaid S → (x : Written) → IsWrittenSo v tree S x
      → is_refusal x.answer.reply ≡ false → (keeps_limit x.answer.call ≡ true) × (is_change x.answer.call ≡ true)
  written_sound tree S taken said x so e = accepted so.so
    where
      sound : (keeps_limit so.change.call ≡ true) × (so.change.enter ≡ false → is_change so.change.call ≡ true)
      sound = waits_sound S taken said so.w so.change so.waits so.request

      accepted : DecidedSo v tree S so.w so.change x.answer.reply
          → (keeps_limit x.answer.call ≡ true) × (is_change x.answer.call ≡ true)
      accepted (IsRefusedByTable refusal on is) = absurd (refused_is x.answer.reply refusal is e)
      accepted (MeetsPinned not row can is) = absurd (refused_is x.answer.reply _ is e)
      accepted (TakesEffect effect row can is) =
          subst (λ (call : Call). (keeps_limit call ≡ true) × (is_change call ≡ true)) (sym so.call)
          (sound.0, sound.1 (has_effect_enters so.change effect))

  written_kept : (tree : Tree) (S : List Doing) → IsKept tree → AllTaken S → AllSaid S → (x : Written)
      → IsWrittenSo v tree S x → IsKept (filesets_after s.cause tree (IsDone x))
  written_kept tree S k taken said x so = after_reply tree x.answer k (written_sound tree S taken said x so)

  decided_kept : (xs : List Applied) (tree : Tree) (S : List Doing) → MayDecideAll v tree before S s xs → IsKept tree
      → AllTaken S → Heard v before s S → AllSaid S → IsKept (filesets_through s.cause xs tree)
  decided_kept [] tree S may k taken heard said = k
  decided_kept (IsWanted x ∷ xs) tree S may k taken heard said =
      let q = wanted v before s x tree S may.0 taken heard in
      decided_kept xs tree (MakesWant x ∷ S) may.1 k q.0 q.1 (on_said S (MakesWant x) (λ h e n b p. cc) said)
  decided_kept (IsDone x ∷ xs) tree S may k taken heard said =
      let q = written_down v before s x S taken heard in
      decided_kept xs (filesets_after s.cause tree (IsDone x)) (WritesDown x ∷ S) may.1
      (written_kept tree S k taken said x may.0) q.0 q.1 (on_said S (WritesDown x) (λ h e n b p. cc) said)
  decided_kept (Replied x ∷ xs) tree S may k taken heard said = elim may.0 [ ]
  decided_kept (Stored h f ss n ∷ xs) tree S may k taken heard said = elim may.0 [ ]
  decided_kept (IsDown h ∷ xs) tree S may k taken heard said = elim may.0 [ ]
  decided_kept (IsMoved move ∷ xs) tree S may k taken heard said = elim may.0 [ ]

-- what is stored by a cause
stored_some : (tree : Tree) (h : HostId) (g : Give) (host : HostId) (f : Fid) (spans : List Span) (n : Option ℕ)
    → In (Stored host f spans n) (stored_of tree h g ++ ended_by h g) → n ≡ g.length
stored_some tree h g host f spans n i =
    by (takes_gifts tree g.fid && (nat_lt 0 (length g.pieces) || is_some g.length)) i
  where
    ends : (o : Option EndsOf) → In (Stored host f spans n)
        (option_map_or
        (λ ends. Replied (record { host = h; k = ends.k; call = ends.call; reply = Fine; first = false }) ∷ []) o [])
        → ⊥
    ends None i = elim i [ ]
    ends (Some e) (inl q) = cc
    ends (Some e) (inr i) = elim i [ ]

    by : (b : Bool) → In (Stored host f spans n)
        ((if b then Stored h g.fid (map span_of g.pieces) g.length ∷ [] else []) ++ ended_by h g) → n ≡ g.length
    by true (inl q) = cc
    by true (inr i) = absurd (ends g.ends i)
    by false i = absurd (ends g.ends i)

-- what a step applies is what its cause applies, and then what it decides
pub split : (cause : Cause) (xs : List Applied) (tree : Tree) → filesets_through cause xs tree
    ≡ filesets_through cause (decisions xs) (filesets_through cause (by_cause xs) tree)
split cause [] tree = refl
split cause (x ∷ xs) tree = go (split cause xs (filesets_after cause tree x)) (is_decision x)
  where
    go : filesets_through cause xs (filesets_after cause tree x)
        ≡ filesets_through cause (decisions xs) (filesets_through cause (by_cause xs) (filesets_after cause tree x))
        → (b : Bool) → filesets_through cause (x ∷ xs) tree
        ≡ filesets_through cause (if b then x ∷ xs else decisions xs)
        (filesets_through cause (if b then [] else x ∷ by_cause xs) tree)
    go rest true = refl
    go rest false = rest

module _ (script : Script) (start : Tree) (firsts : ServerId → ℕ) (past : List Step)
    (run : StepsMeet script start firsts past) (v : ServerId) (s : Step)
    (m : StepMeets script start firsts (Server v) past s) where
  abbrev earlier : List Doing
  earlier = doings_of (firsts v) v past

  give_sound : (g : Give) (x : Message) → s.cause ≡ Came x → x.body ≡ GiveBack g
      → IfSome g.length (λ n. n ≤ FILE_BYTES_MAX)
  give_sound g x cause body =
      let k = said_sound script start firsts x.host v x.epoch x.moves x.body past run (m.1 x cause).2 in
      let b : IsGiveBack script.roster k.message g =
      subst (λ (z : Body). IsBody script.roster k.message z) (k.body ∙ body) k.sound.body in
      b.size

  pub sizes : (host : HostId) (f : Fid) (spans : List Span) (n : ℕ) → In (Stored host f spans (Some n)) (by_cause s.applied)
      → n ≤ FILE_BYTES_MAX
  sizes host f spans n i = go (nat_le n FILE_BYTES_MAX) refl
    where
      never : (n ≤ FILE_BYTES_MAX → ⊥) → ⊥
      never over =
          elim (subst (In (Stored host f spans (Some n))) (m.0.works.applies.else_none given_no down_no) i) [ ]
        where
          given_no : (h : HostId) (g : Give) → FirstGiven v earlier s h g → ⊥
          given_no h g first =
              let t = first.0.1.0 in
              let same : Some n ≡ g.length =
              stored_some (filesets_kept start v (steps_of_server v past)) h g host f spans (Some n)
              (subst (In (Stored host f spans (Some n))) (m.0.works.applies.given h g first) i) in
              over (subst (λ (o : Option ℕ). IfSome o (λ n. n ≤ FILE_BYTES_MAX)) (sym same)
              (give_sound g t.0 t.1 t.5))

          down_no : (h : HostId) → FirstDown earlier s h → ⊥
          down_no h first =
              elim (subst (In (Stored host f spans (Some n))) (m.0.works.applies.down h first) i) [
                | inl q ↦ (let p : Stored host f spans (Some n) ≡ IsDown h = q in cc)
                | inr q ↦ elim q [ ]
              ]

      go : (b : Bool) → nat_le n FILE_BYTES_MAX ≡ b → n ≤ FILE_BYTES_MAX
      go true e = let k : n ≤ 65536 = grind (arith, common_steps, e) in k
      go false e = absurd (never (λ le.
          let k : n ≤ 65536 = le in
          let q : nat_le n 65536 ≡ true = grind (arith, common_steps, k) in
          false≢true (sym e ∙ q)))

  pub cause_kept : (xs : List Applied) (tree : Tree)
      → ((host : HostId) (f : Fid) (spans : List Span) (n : ℕ) → In (Stored host f spans (Some n)) (by_cause xs)
      → n ≤ FILE_BYTES_MAX) → IsKept tree → IsKept (filesets_through s.cause (by_cause xs) tree)
  cause_kept [] tree most k = k
  cause_kept (Stored h f ss n ∷ xs) tree most k =
      cause_kept xs (tree_given tree f (pieces_in s.cause) n) (λ host g spans l i. most host g spans l (inr i))
      (gives_keep.kept tree f (pieces_in s.cause) n k (some n (λ l e. most h f ss l (inl (ap (λ o. Stored h f ss o) (sym e))))))
    where
      some : (o : Option ℕ) → ((l : ℕ) → o ≡ Some l → l ≤ FILE_BYTES_MAX) → IfSome o (λ n. n ≤ FILE_BYTES_MAX)
      some None all = tt
      some (Some l) all = all l refl
  cause_kept (Replied x ∷ xs) tree most k = cause_kept xs tree (λ host g spans l i. most host g spans l (inr i)) k
  cause_kept (IsDown h ∷ xs) tree most k = cause_kept xs tree (λ host g spans l i. most host g spans l (inr i)) k
  cause_kept (IsMoved move ∷ xs) tree most k = cause_kept xs tree (λ host g spans l i. most host g spans l (inr i)) k
  cause_kept (IsWanted x ∷ xs) tree most k = k
  cause_kept (IsDone x ∷ xs) tree most k = k

  step_kept : IsKept (filesets_kept start v (steps_of_server v past)) → IsKept (filesets_kept start v (s ∷ steps_of_server v past))
  step_kept k =
      subst IsKept (sym (split s.cause s.applied (filesets_kept start v (steps_of_server v past))))
      (decided_kept script start firsts past run v s (decisions s.applied)
      (filesets_through s.cause (by_cause s.applied) (filesets_kept start v (steps_of_server v past))) (after_cause s.cause earlier)
      m.0.works.decides (cause_kept s.applied (filesets_kept start v (steps_of_server v past)) sizes k)
      (causes s.cause earlier (all_taken script start firsts past run v)) (taken_took earlier s)
      (λ h e n b i. cause_heard h e n b script start firsts past run v s m.1
      (heard h e n b script start firsts past run v) i))

module _ (script : Script) (start : Tree) (firsts : ServerId → ℕ) (first : (v : ServerId) → IsKept (filesets_first start v))
  where
    at_node : (n : Node) (past : List Step) (s : Step) → StepsMeet script start firsts past
        → StepMeets script start firsts n past s → (v : ServerId) → IsKept (filesets_kept start v (steps_of_server v past))
        → IsKept (filesets_kept start v (if is_node n (Server v) then s ∷ steps_of_server v past else steps_of_server v past))
    at_node (Host k) past s run m v old = old
    at_node (Server k) past s run m v old =
        if_server (λ L. IsKept (filesets_kept start v L)) k v (s ∷ steps_of_server v past) (steps_of_server v past)
        (λ e. subst (λ w. IsKept (filesets_kept start w (steps_of_server w past)) → IsKept (filesets_kept start w (s ∷ steps_of_server w past))) e
        (step_kept script start firsts past run k s m) old) old

    pub all_kept : (past : List Step) → StepsMeet script start firsts past → (v : ServerId)
        → IsKept (filesets_kept start v (steps_of_server v past))
    all_kept [] run v = first v
    all_kept (s ∷ past) run v = at_node s.node past s run.0 run.1.0 v (all_kept past run.0 v)

pub servers_keep : ServersKeepWell
servers_keep script journal run server =
    all_kept script run.start (firsts_of journal)
    (λ v. starts_kept run.start v (record { formed = run.valid.well_formed; rests = run.valid.at_rest })
    run.valid.unmoved) (past_of journal) run.steps server
