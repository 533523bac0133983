-- What is known of each Change that a server's step writes down.
use Rattle.std.proofs.Common.{Bool, List, ap, false, inl, inr, not, refl, sym, true, ℕ, ◌&&◌, ◌∙◌, ◌∷◌, ◌≡◌}
use Rattle.std.proofs.lemmas.Bool.{false≢true}
use Rattle.std.specs.Prelude.{[], if◌then◌else◌}
use Rattle.base_types.specs.declared.ids.HostId.{HostId}
use Rattle.base_types.specs.declared.ids.Node.TheVariants.{Server}
use Rattle.base_types.specs.declared.ids.ServerId.{ServerId}
use Rattle.tree_calls.specs.Limits.{keeps_limit}
use Rattle.tree_calls.specs.declared.reply.Refusal.{Refusal}
use Rattle.tree_calls.specs.declared.reply.Reply.{Reply}
use Rattle.tree_calls.specs.declared.reply.Reply.TheVariants.{Refused}
use Rattle.tree_answers.specs.declared.tree.Tree.{Tree}
use Rattle.message_types.specs.declared.message.Body.{Body}
use Rattle.script_lines.specs.declared.script.Script.{Script}
use Rattle.run_rules.specs.Doings.{Doing, after_cause, decisions_of, doings_of}
use Rattle.run_rules.specs.Doings.Doing.{MakesWant, Took, WritesDown}
use Rattle.run_rules.specs.Kept.{filesets_after, filesets_kept, filesets_through, is_refusal}
use Rattle.run_rules.specs.Messages.{Said}
use Rattle.run_rules.specs.Past.{In, appended}
use Rattle.run_rules.specs.Runs.{StepMeets, StepsMeet}
use Rattle.run_rules.specs.ServerDecides.{DecidedSo, IsWrittenSo, MayDecideAll, by_cause, decisions, is_decision}
use Rattle.run_rules.specs.ServerDecides.DecidedSo.{IsRefusedByTable, MeetsPinned, TakesEffect}
use Rattle.run_rules.specs.Steps.{steps_of_host, steps_of_server}
use Rattle.run_rules.specs.Wants.{is_use}
use Rattle.run_rules.specs.declared.applied.Applied.TheVariants.{Done as IsDone, IsDown, Replied, Stored}
use Rattle.run_rules.specs.declared.applied.Applied.TheVariants.{Moves as IsMoved, Wants as IsWanted}
use Rattle.run_history.proofs.ChangeLaw.{each_both}
use Rattle.run_history.specs.Changes.{AgreesKept, EachChange, IsLegalChange}
use Rattle.run_history.proofs.Decisions.{Fits, GoesHere}
use Rattle.run_parts.specs.Contents.{Contents}
use Rattle.run_contents.proofs.Grants.{AllTaken, Heard, all_taken, causes as causes_taken, taken_took, wanted}
use Rattle.run_contents.proofs.Grants.{written_down}
use Rattle.run_contents.proofs.Keeping.{written_sound}
use Rattle.run_contents.proofs.Servers.{cause_heard, heard}
use Rattle.run_rules.specs.declared.applied.Applied.{Applied}
use Rattle.run_rules.specs.declared.applied.Written.{Written}
use Rattle.run_rules.specs.declared.step.Cause.{Cause}
use Rattle.run_rules.specs.declared.step.Step.{Step}
use Rattle.run_history.specs.Meant.{MeantSo}
use Rattle.run_history.specs.Meant.MeantSo.{Decides, Refuses}

pub each_map : (P Q : List Doing → Tree → Written → Type 0) (cause : Cause) (ys : List Applied)
    → ((b : List Doing) (k : Tree) (x : Written) → In (IsDone x) ys → P b k x → Q b k x) → (K : Tree) (S : List Doing)
    (xs : List Applied) → ((a : Applied) → In a xs → In a ys) → EachChange P cause K S xs → EachChange Q cause K S xs
each_map P Q cause ys to K S [] within p = tt
each_map P Q cause ys to K S (IsDone x ∷ xs) within p = (
  to S K x (within (IsDone x) (inl refl)) p.0,
  each_map P Q cause ys to (filesets_after cause K (IsDone x)) (WritesDown x ∷ S) xs
      (λ a i. within a (inr i)) p.1,
)
each_map P Q cause ys to K S (IsWanted w ∷ xs) within p =
    each_map P Q cause ys to K (appended (decisions_of (IsWanted w)) S) xs (λ a i. within a (inr i)) p
each_map P Q cause ys to K S (Replied a ∷ xs) within p =
    each_map P Q cause ys to K S xs (λ a i. within a (inr i)) p
each_map P Q cause ys to K S (Stored h f spans n ∷ xs) within p =
    each_map P Q cause ys to (filesets_after cause K (Stored h f spans n)) S xs (λ a i. within a (inr i)) p
each_map P Q cause ys to K S (IsDown h ∷ xs) within p =
    each_map P Q cause ys to K S xs (λ a i. within a (inr i)) p
each_map P Q cause ys to K S (IsMoved move ∷ xs) within p =
    each_map P Q cause ys to K (appended (decisions_of (IsMoved move)) S) xs (λ a i. within a (inr i)) p

-- what is decided is applied
pub in_decided : (xs : List Applied) (a : Applied) → In a (decisions xs) → In a xs
in_decided [] a i = i
in_decided (x ∷ xs) a i = go (is_decision x) (λ j. in_decided xs a j) i
  where
    go : (b : Bool) → (In a (decisions xs) → In a xs) → In a (if b then x ∷ xs else decisions xs) → In a (x ∷ xs)
    go true rest j = j
    go false rest j = inr (rest j)

refusal_not : (reply : Reply) (refusal : Refusal) → reply ≡ Refused refusal → is_refusal reply ≡ false → ⊥
refusal_not reply refusal e f = false≢true (sym f ∙ ap is_refusal e)

no_use : (enter label move : Bool) → (not enter && not label && not move) ≡ true → label ≡ false
no_use false false move q = refl
no_use true label move q = absurd (false≢true q)
no_use false true move q = absurd (false≢true q)

-- a Change that isn't refused keeps the limits, and takes no label
abbrev Sound : List Doing → Tree → Written → Type 0
Sound before K x = is_refusal x.answer.reply ≡ false
    → (keeps_limit x.answer.call ≡ true) × (is_use x.answer.call ≡ false)

module _ (script : Script) (start : Tree) (firsts : ServerId → ℕ) (past : List Step)
    (run : StepsMeet script start firsts past) (v : ServerId) (s : Step) where
  abbrev AllSaid : List Doing → Type 0
  AllSaid S = (h : HostId) (e n : ℕ) (b : Body) → In (Took h e n b) S → Said (steps_of_host h past) v e n b

  on_said : (S : List Doing) (a : Doing) → ((h : HostId) (e n : ℕ) (b : Body) → Took h e n b ≡ a → ⊥) → AllSaid S
      → AllSaid (a ∷ S)
  on_said S a never old h e n b (inl q) = absurd (never h e n b q)
  on_said S a never old h e n b (inr i) = old h e n b i

  sound_one : (K : Tree) (S : List Doing) → AllTaken S → AllSaid S → (x : Written) → IsWrittenSo v K S x → Sound S K x
  sound_one K S taken said x so e =
      ((written_sound script start firsts past run v s K S taken said x so e).0, plain so.so)
    where
      plain : DecidedSo v K S so.w so.change x.answer.reply → is_use x.answer.call ≡ false
      plain (IsRefusedByTable refusal on is) = absurd (refusal_not x.answer.reply refusal is e)
      plain (MeetsPinned never row can is) = absurd (refusal_not x.answer.reply _ is e)
      plain (TakesEffect effect row can is) =
          ap is_use so.call ∙ no_use so.change.enter (is_use so.change.call) _ effect

  sounds : (xs : List Applied) (S0 S : List Doing) (K : Tree) → MayDecideAll v K S0 S s xs → AllTaken S → Heard v S0 s S
      → AllSaid S → EachChange Sound s.cause K S xs
  sounds [] S0 S K may taken heard said = tt
  sounds (IsWanted x ∷ xs) S0 S K may taken heard said =
      let q = wanted v S0 s x K S may.0 taken heard in
      sounds xs S0 (MakesWant x ∷ S) K may.1 q.0 q.1 (on_said S (MakesWant x) (λ h e n b p. cc) said)
  sounds (IsDone x ∷ xs) S0 S K may taken heard said =
      let q = written_down v S0 s x S taken heard in (
        sound_one K S taken said x may.0,
        sounds xs S0 (WritesDown x ∷ S) (filesets_after s.cause K (IsDone x)) may.1 q.0 q.1
            (on_said S (WritesDown x) (λ h e n b p. cc) said),
      )
  sounds (Replied x ∷ xs) S0 S K may taken heard said = elim may.0 [ ]
  sounds (Stored h f ss n ∷ xs) S0 S K may taken heard said = elim may.0 [ ]
  sounds (IsDown h ∷ xs) S0 S K may taken heard said = elim may.0 [ ]
  sounds (IsMoved move ∷ xs) S0 S K may taken heard said = elim may.0 [ ]

  module _ (m : StepMeets script start firsts (Server v) past s) (c : Contents) (Labels : Tree → Type 0)
      (labels_same : (a b : Tree) → a.locks ≡ b.locks → a.opens ≡ b.opens → Labels a → Labels b) where
    abbrev S : List Doing
    S = doings_of (firsts v) v past

    abbrev caused : Tree
    caused = filesets_through s.cause (by_cause s.applied) (filesets_kept start v (steps_of_server v past))

    abbrev Each : (List Doing → Tree → Written → Type 0) → Type 0
    Each Holds = EachChange Holds s.cause caused (after_cause s.cause S) (decisions s.applied)

    all_sound : Each Sound
    all_sound =
        sounds (decisions s.applied) S (after_cause s.cause S) caused m.0.works.decides
        (causes_taken s.cause S (all_taken script start firsts past run v)) (taken_took S s)
        (λ h e n b i. cause_heard h e n b script start firsts past run v s m.1
        (heard h e n b script start firsts past run v) i)

    module _
        (legal : Each (λ before K x. (t : Tree) → AgreesKept v before K t → Labels t → IsLegalChange v s.cause K x t))
        (meant : Each (MeantSo v s.cause)) where
      abbrev All : List Doing → Tree → Written → Type 0
      All before K x =
          ((t : Tree) → AgreesKept v before K t → Labels t → IsLegalChange v s.cause K x t)
          × (MeantSo v s.cause before K x × Sound before K x)

      abbrev FitsHere : List Doing → Tree → Written → Type 0
      FitsHere = Fits script start c past v s Labels labels_same

      fits_one : (before : List Doing) (K : Tree) (x : Written) → In (IsDone x) s.applied → All before K x
          → FitsHere before K x
      fits_one before K x i all = record { legal = all.0; goes = λ e. goes e all.1.0 }
        where
          goes : is_refusal x.answer.reply ≡ false → MeantSo v s.cause before K x → GoesHere v x.answer.call
          goes e (Decides change here) = record {
            change = change;
            here = here;
            limited = (all.1.1 e).0;
            plain = (all.1.1 e).1;
          }
          goes e (Refuses refusal more) = absurd (false≢true (sym e ∙ refusal))

      pub all_fit : Each FitsHere
      all_fit =
          let at = after_cause s.cause S in
          let xs = decisions s.applied in
          each_map All FitsHere s.cause s.applied fits_one caused at xs (in_decided s.applied)
          (each_both _ _ s.cause xs caused at legal (each_both _ _ s.cause xs caused at meant all_sound))
