-- Calls that one fileset decides.
use Rattle.std.proofs.Common.{◌≡◌, ℕ, zero, suc, ◌<◌, ◌==◌, nat_lt, Bool, true, false, ◌||◌, not, cond, List, [], ◌∷◌, length, Option, Some, None, Result, Ok, Err, refl, sym, ap, ◌∙◌, subst, arith, rules}
use Rattle.std.specs.Prelude.{slice_get}
use Rattle.std.specs.List.{find, list_any, position, prefix_len}
use Rattle.std.proofs.lemmas.Grind.{common_steps}
use Rattle.base_types.specs.Outcomes.{and_then, either}
use Rattle.base_types.specs.declared.ids.Fid.{Fid}
use Rattle.base_types.specs.declared.ids.HostId.{HostId}
use Rattle.base_types.specs.declared.ids.ServerId.{ServerId}
use Rattle.base_types.specs.declared.user.User.{User}
use Rattle.tree_calls.specs.declared.call.Call.{Call}
use Rattle.tree_calls.specs.declared.reply.Refusal.{Refusal}
use Rattle.tree_calls.specs.declared.reply.Refusal.TheVariants.{NoFileset, CrossFileset}
use Rattle.tree_filesets.specs.declared.fileset.Fileset.{Fileset}
use Rattle.tree_filesets.specs.Checks.{unless}
use Rattle.tree_filesets.specs.Rows.{fileset_answer}
use Rattle.tree_answers.specs.Answers.{answer_at, with_answered}
use Rattle.tree_answers.specs.Finding.{Answer, fileset_place, found_or, leads_to, refuse}
use Rattle.tree_answers.specs.declared.tree.Away.{Away}
use Rattle.tree_answers.specs.declared.tree.Tree.{Tree}
use Rattle.tree_answers.proofs.Kept.{row_follows}
use Rattle.tree_answers.proofs.Led.{named_nowhere, position_found}
use Rattle.tree_answers.proofs.Places.{found_passes}
use Rattle.need_laws.specs.Known.{SameAt, SameUses, filesets_of, is_known, records_of}
use Rattle.need_laws.specs.Laws.{AnswersSame, StaysElsewhere}
use Rattle.need_laws.proofs.Founds.{leads_within, same_found, same_leads}
use Rattle.need_laws.proofs.Lists.{put_first, set_beside, set_kept}

-- where a name of a server leads
pub data IsPlaced (tree : Tree) (server : ServerId) (name : List ℕ) : Type 0 where
  Nowhere : fileset_place tree server name ≡ Err NoFileset → find (leads_to tree server name) tree.filesets ≡ None → IsPlaced tree server name
  There : (i : ℕ) (fileset : Fileset) → fileset_place tree server name ≡ Ok i → position (leads_to tree server name) tree.filesets ≡ Some i → slice_get tree.filesets i ≡ Some fileset
      → find (leads_to tree server name) tree.filesets ≡ Some fileset → IsPlaced tree server name

got : {X : Type 0} (xs : List X) (i : ℕ) → i < length xs → slice_get xs i ≡ None → ⊥
got [] i h k = absurd (omega (arith, h))
got (x ∷ xs) zero h k = absurd (search (rules, k))
got (x ∷ xs) (suc i) h k = got xs i (omega (arith, h)) k

within : {X : Type 0} (p : X → Bool) (xs : List X) (i : ℕ) → position p xs ≡ Some i → i < length xs
within p xs i h = by_test (nat_lt (prefix_len (λ x. not (p x)) xs) (length xs)) refl h
  where
    by_test : (b : Bool) → nat_lt (prefix_len (λ x. not (p x)) xs) (length xs) ≡ b → cond b (Some (prefix_len (λ x. not (p x)) xs)) None ≡ Some i → i < length xs
    by_test true e k =
        let same : prefix_len (λ x. not (p x)) xs ≡ i = cc in
        let less : prefix_len (λ x. not (p x)) xs < length xs = grind (arith, common_steps, e) in
        subst (λ n. n < length xs) same less
    by_test false e k = absurd (search (rules, k))

pub placed : (tree : Tree) (server : ServerId) (name : List ℕ) → IsPlaced tree server name
unfolding fileset_place
placed tree server name = by_position (position (leads_to tree server name) tree.filesets) refl
  where
    by_found : (i : ℕ) (o : Option Fileset) → position (leads_to tree server name) tree.filesets ≡ Some i → slice_get tree.filesets i ≡ o → IsPlaced tree server name
    by_found i None e k = absurd (got tree.filesets i (within (leads_to tree server name) tree.filesets i e) k)
    by_found i (Some fileset) e k = There i fileset (ap (λ o. found_or o NoFileset) e) e k (position_found (leads_to tree server name) tree.filesets i e ∙ k)

    by_position : (o : Option ℕ) → position (leads_to tree server name) tree.filesets ≡ o → IsPlaced tree server name
    by_position None e = Nowhere (ap (λ o. found_or o NoFileset) e) (named_nowhere tree server name e)
    by_position (Some i) e = by_found i (slice_get tree.filesets i) e refl

-- a found place, where a check refuses behind it
abbrev crossed : Result ℕ Refusal → Result ℕ Refusal
crossed found = and_then found (λ place. Err CrossFileset)

-- the fileset that answered is known as it was
same_known : (records : List Away) (server : ServerId) (old new : Fileset) → new.server ≡ old.server → new.id ≡ old.id → is_known records server new ≡ is_known records server old
same_known records server old new at its =
    ap (λ s. (s.0 == server.0) || list_any (λ away. new.id.0 == away.fileset.0) records) at ∙ ap (λ id. (old.server.0 == server.0) || list_any (λ away. id.0 == away.fileset.0) records) its

module _ (used : Fid → Bool) (host : HostId) (user : User) (call : Call) where
  -- a row of the fileset that is decided on
  abbrev pub row : Tree → Result ℕ Refusal → Answer
  row tree decided = either decided (λ place. answer_at tree place (slice_get tree.filesets place) (λ fileset. fileset_answer fileset used host user call)) (refuse tree)

  pub row_there : (tree : Tree) (decided : Result ℕ Refusal) (i : ℕ) (fileset : Fileset) → decided ≡ Ok i → slice_get tree.filesets i ≡ Some fileset → row tree decided ≡ with_answered tree i (fileset_answer fileset used host user call)
  row_there tree decided i fileset e k =
      ap (λ found. either found (λ place. answer_at tree place (slice_get tree.filesets place) (λ fileset. fileset_answer fileset used host user call)) (refuse tree)) e
      ∙ ap (λ o. answer_at tree i o (λ fileset. fileset_answer fileset used host user call)) k

  pub row_refused : (tree : Tree) (decided : Result ℕ Refusal) (refusal : Refusal) → decided ≡ Err refusal → row tree decided ≡ refuse tree refusal
  row_refused tree decided refusal e = ap (λ found. either found (λ place. answer_at tree place (slice_get tree.filesets place) (λ fileset. fileset_answer fileset used host user call)) (refuse tree)) e

  known_after : (records : List Away) (server : ServerId) (fileset : Fileset) → is_known records server (fileset_answer fileset used host user call).fileset ≡ is_known records server fileset
  known_after records server fileset =
      let its = (row_follows fileset used host user call).same in
      same_known records server fileset (fileset_answer fileset used host user call).fileset its.server its.id

  -- on two trees that are the same there
  module _ (a b : Tree) (server : ServerId) (same : SameAt server a b) (uses : SameUses a b) where
    answered : (name : List ℕ) (i j : ℕ) (f g : Fileset) → position (leads_to a server name) a.filesets ≡ Some i → position (leads_to b server name) b.filesets ≡ Some j →
        find (leads_to a server name) a.filesets ≡ Some f → find (leads_to b server name) b.filesets ≡ Some g →
        AnswersSame server (with_answered a i (fileset_answer f used host user call)) (with_answered b j (fileset_answer g used host user call))
    answered name i j f g pa pb fa fb =
        let both : Some f ≡ Some g = sym fa ∙ same_found a b server same name ∙ fb in
        let one : f ≡ g = cc in
        let ka : is_known (records_of server a) server f ≡ true = leads_within a server name f (found_passes (leads_to a server name) a.filesets f fa) in
        let kb : is_known (records_of server b) server g ≡ true = leads_within b server name g (found_passes (leads_to b server name) b.filesets g fb) in
        let left : SameAt server (with_answered a i (fileset_answer f used host user call)).tree (with_answered b j (fileset_answer g used host user call)).tree = record {
          roster = same.roster;
          room = same.room;
          filesets =
              set_kept (leads_to a server name) (is_known (records_of server a) server) a.filesets i (fileset_answer f used host user call).fileset pa (leads_within a server name) (known_after (records_of server a) server f ∙ ka)
              ∙ ap (λ filesets. put_first (leads_to a server name) (fileset_answer f used host user call).fileset filesets) same.filesets
              ∙ ap (λ p. put_first p (fileset_answer f used host user call).fileset (filesets_of server b)) (same_leads a b server same name)
              ∙ ap (λ x. put_first (leads_to b server name) (fileset_answer x used host user call).fileset (filesets_of server b)) one
              ∙ sym (set_kept (leads_to b server name) (is_known (records_of server b) server) b.filesets j (fileset_answer g used host user call).fileset pb (leads_within b server name) (known_after (records_of server b) server g ∙ kb));
          records = same.records;
        } in
        record { reply = ap (λ x. (fileset_answer x used host user call).reply) one; left = left; uses = record { locks = uses.locks; opens = uses.opens } }

    pub refused : (refusal : Refusal) → AnswersSame server (refuse a refusal) (refuse b refusal)
    refused refusal = record { reply = refl; left = same; uses = uses }

    pub same_row : (name : List ℕ) → AnswersSame server (row a (fileset_place a server name)) (row b (fileset_place b server name))
    same_row name = by_place (placed a server name) (placed b server name)
      where
        by_place : IsPlaced a server name → IsPlaced b server name → AnswersSame server (row a (fileset_place a server name)) (row b (fileset_place b server name))
        by_place (Nowhere ea na) (Nowhere eb nb) =
            subst (λ x. AnswersSame server x (row b (fileset_place b server name))) (sym (row_refused a (fileset_place a server name) NoFileset ea))
            (subst (λ x. AnswersSame server (refuse a NoFileset) x) (sym (row_refused b (fileset_place b server name) NoFileset eb)) (refused NoFileset))
        by_place (Nowhere ea na) (There j g eb pb gb fb) = let wrong : None ≡ Some g = sym na ∙ same_found a b server same name ∙ fb in absurd (search (rules, wrong))
        by_place (There i f ea pa ga fa) (Nowhere eb nb) = let wrong : None ≡ Some f = sym nb ∙ sym (same_found a b server same name) ∙ fa in absurd (search (rules, wrong))
        by_place (There i f ea pa ga fa) (There j g eb pb gb fb) =
            subst (λ x. AnswersSame server x (row b (fileset_place b server name))) (sym (row_there a (fileset_place a server name) i f ea ga))
            (subst (λ x. AnswersSame server (with_answered a i (fileset_answer f used host user call)) x) (sym (row_there b (fileset_place b server name) j g eb gb))
            (answered name i j f g pa pb fa fb))

    -- where a check follows
    pub same_checked : (name : List ℕ) (cross : Bool) →
        AnswersSame server (row a (and_then (fileset_place a server name) (λ place. unless cross CrossFileset (Ok place)))) (row b (and_then (fileset_place b server name) (λ place. unless cross CrossFileset (Ok place))))
    same_checked name false =
        subst (λ d. AnswersSame server (row a d) (row b (and_then (fileset_place b server name) (λ place. Ok place)))) (sym (then_self (fileset_place a server name)))
        (subst (λ d. AnswersSame server (row a (fileset_place a server name)) (row b d)) (sym (then_self (fileset_place b server name))) (same_row name))
      where
        then_self : (found : Result ℕ Refusal) → and_then found (λ place. Ok place) ≡ found
        then_self (Ok place) = refl
        then_self (Err refusal) = refl
    same_checked name true = by_place (placed a server name) (placed b server name)
      where
        both : (x y : Result ℕ Refusal) (refusal : Refusal) → crossed x ≡ Err refusal → crossed y ≡ Err refusal → AnswersSame server (row a (crossed x)) (row b (crossed y))
        both x y refusal ea eb =
            subst (λ z. AnswersSame server z (row b (crossed y))) (sym (row_refused a (crossed x) refusal ea))
            (subst (λ z. AnswersSame server (refuse a refusal) z) (sym (row_refused b (crossed y) refusal eb)) (refused refusal))

        by_place : IsPlaced a server name → IsPlaced b server name → AnswersSame server (row a (crossed (fileset_place a server name))) (row b (crossed (fileset_place b server name)))
        by_place (Nowhere ea na) (Nowhere eb nb) = both (fileset_place a server name) (fileset_place b server name) NoFileset (ap crossed ea) (ap crossed eb)
        by_place (Nowhere ea na) (There j g eb pb gb fb) = let wrong : None ≡ Some g = sym na ∙ same_found a b server same name ∙ fb in absurd (search (rules, wrong))
        by_place (There i f ea pa ga fa) (Nowhere eb nb) = let wrong : None ≡ Some f = sym nb ∙ sym (same_found a b server same name) ∙ fa in absurd (search (rules, wrong))
        by_place (There i f ea pa ga fa) (There j g eb pb gb fb) = both (fileset_place a server name) (fileset_place b server name) CrossFileset (ap crossed ea) (ap crossed eb)

  -- of what the server doesn't know nothing changes
  pub row_stays : (tree : Tree) (server : ServerId) (name : List ℕ) (i : ℕ) (fileset : Fileset) → find (leads_to tree server name) tree.filesets ≡ Some fileset → slice_get tree.filesets i ≡ Some fileset →
      StaysElsewhere server tree (with_answered tree i (fileset_answer fileset used host user call)).tree
  row_stays tree server name i fileset f g =
      let known : is_known (records_of server tree) server fileset ≡ true = leads_within tree server name fileset (found_passes (leads_to tree server name) tree.filesets fileset f) in
      record {
        roster = refl;
        rooms = λ other h. refl;
        records = refl;
        filesets = set_beside (λ x. not (is_known (records_of server tree) server x)) tree.filesets i fileset (fileset_answer fileset used host user call).fileset g (ap not known) (ap not (known_after (records_of server tree) server fileset ∙ known));
      }
