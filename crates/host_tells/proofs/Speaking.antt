-- What is answered at once is what the call table replies.
use Rattle.std.proofs.Common.{◌≡◌, ◌<◌, ◌+◌, ◌∙◌, ◌⊎◌, Err, IfOk, List, MatchOption, None, Ok, Option, Result}
use Rattle.std.proofs.Common.{Some, [], ap, arith, false, inl, inr, length, refl, subst, sym, ℕ}
use Rattle.base_types.specs.declared.ids.Fid.{Fid}
use Rattle.base_types.specs.declared.span.Span.{Span}
use Rattle.host_calls.proofs.Starting.{place_of, starts_in}
use Rattle.host_calls.specs.Answering.{MarksUsed}
use Rattle.host_calls.specs.Looking.{AreSized, AreUses, CanRead, IsBacked}
use Rattle.host_calls.specs.Looking.{IsFresh, IsVerdictOf, LeadsSo, OnlyTells, Walked}
use Rattle.host_calls.specs.Looking.{WalksSo, meant, path_look}
use Rattle.host_calls.specs.declared.looking.Question.{Question}
use Rattle.host_calls.specs.declared.looking.Question.TheVariants.{Enter}
use Rattle.host_calls.specs.declared.looking.Start.TheVariants.{Ends as EndsAt}
use Rattle.host_calls.specs.declared.looking.Verdict.{Verdict}
use Rattle.host_calls.specs.declared.looking.Verdict.TheVariants.{Asks, Does, Frees, Gives, Lists, Reads, Shows, Syncs}
use Rattle.host_calls.specs.declared.looking.Verdict.TheVariants.{Tells, Uses, Writes}
use Rattle.host_tables.specs.Stands.{CanReply, look_from, verdict_from}
use Rattle.host_tables.specs.Tables.{content, held_of, home_of}
use Rattle.host_tables.specs.declared.tables.Tables.{Tables}
use Rattle.host_tells.specs.Spoken.{ComesTo, SpeaksAlong, SpeaksAtOnce, SpeaksCounted, Spells, StaysSilent, told_place}
use Rattle.host_tells.specs.Spoken.SpeaksAlong.{IsSilent, LacksIt, Speaks}
use Rattle.host_walk.specs.declared.sight.Stop.{Stop}
use Rattle.host_walk.specs.declared.sight.Stop.TheVariants.{Lacks, Refused}
use Rattle.message_calls.specs.Replies.{spell_reply}
use Rattle.need_host.proofs.Looking.{lacks_are_first}
use Rattle.need_host.specs.Calls.{Verdict as Meant, reply_now}
use Rattle.need_host.specs.Looks.{IsCovered, Look, needs_of, outcome}
use Rattle.token_types.specs.declared.token.Kind.TheVariants.{Bytes, Lock as LockToken, Opening, Status}
use Rattle.token_types.specs.declared.token.Need.{Need}
use Rattle.tree_calls.specs.declared.call.Call.{Call}
use Rattle.tree_calls.specs.declared.call.Call.TheVariants.{GetAcl, List as ListNames, Read, Stat}
use Rattle.tree_calls.specs.declared.place.Place.{Place}
use Rattle.tree_calls.specs.declared.place.Which.{Which}
use Rattle.tree_calls.specs.declared.reply.Refusal.{Refusal}
use Rattle.tree_calls.specs.declared.reply.Reply.{Reply}
use Rattle.tree_calls.specs.declared.reply.Reply.TheVariants.{Ok as Done}

-- ---- calls that only tell
pub told_tells : (call : Call) (place : Place) → told_place call ≡ Some place → OnlyTells call
told_tells (Read p f l) place e = tt
told_tells (Stat p) place e = tt
told_tells (ListNames p) place e = tt
told_tells (GetAcl p which) place e = tt
told_tells call place e = absurd (cc)

pub tells_told : (call : Call) → told_place call ≡ None → OnlyTells call → ⊥
tells_told (Read p f l) e t = absurd (cc)
tells_told (Stat p) e t = absurd (cc)
tells_told (ListNames p) e t = absurd (cc)
tells_told (GetAcl p which) e t = absurd (cc)
tells_told call e t = elim t [ ]

pub told_fresh : (m : Tables) (call : Call) (place : Place) → told_place call ≡ Some place → IsFresh m call
told_fresh m (Read p f l) place e = λ lock label k. absurd (cc)
told_fresh m (Stat p) place e = λ lock label k. absurd (cc)
told_fresh m (ListNames p) place e = λ lock label k. absurd (cc)
told_fresh m (GetAcl p which) place e = λ lock label k. absurd (cc)
told_fresh m call place e = absurd (cc)

pub told_there : (m : Tables) (call : Call) (place : Place) → told_place call ≡ Some place → place_of m call
    ≡ Some place
told_there m (Read p f l) place e = e
told_there m (Stat p) place e = e
told_there m (ListNames p) place e = e
told_there m (GetAcl p which) place e = e
told_there m call place e = absurd (cc)

none_some : {A : Type 0} (x : A) → None ≡ Some x → ⊥
none_some x e = absurd (cc)

module _ (m : Tables) (call : Call) (place : Place) (told : told_place call ≡ Some place) (uses : AreUses m)
    (sized : AreSized m.cache) where
  -- ---- where the fileset isn't entered
  pub not_entered : home_of m.homes place.server place.fileset ≡ None → CanReply m call → ⊥
  not_entered none can =
      let verdict : Result Verdict Refusal = Ok (Asks (Enter place.server)) in
      let look = starts_in m call place (told_there m call place told) (EndsAt verdict) (none, refl) uses in
      none_some can.reply (sym (ap (λ (l : Look Meant). reply_now (outcome (content m.cache) l)) look) ∙ can.settled)

  module _ (root : Fid) (path : List (List ℕ)) (walks : WalksSo m call root path) where
    abbrev pub look : Look Meant
    look = path_look m call root path

    pub look_is : look_from m call ≡ look
    look_is = walks uses

    -- ---- where a token lacks
    pub no_lack : (need : Need) → Walked m call root path (Err (Lacks need)) → CanReply m call → ⊥
    no_lack need lack can =
        (lacks_are_first (held_of m) (needs_of (content m.cache) look)).none
        (subst (λ (l : Look Meant). IsCovered (held_of m) (content m.cache) l) look_is can.covered) need lack

    -- ---- where the call comes to a verdict
    pub made_so : (verdict : Result Verdict Refusal) (made : Result Verdict Stop) → Walked m call root path made →
        IsVerdictOf made verdict →
        IsCovered (held_of m) (content m.cache) look × (outcome (content m.cache) look ≡ meant m call verdict)
    made_so verdict (Ok v) w is =
        (w.0, w.1 sized ∙ ap (λ (x : Result Verdict Refusal). meant m call x) (sym is))
    made_so verdict (Err (Refused refusal)) w is =
        (w.0, w.1 ∙ ap (λ (x : Result Verdict Refusal). meant m call x) (sym is))
    made_so verdict (Err (Lacks need)) w is = elim is [ ]

    module _ (verdict : Result Verdict Refusal) (comes : ComesTo m call root path verdict) where
      pub verdict_is : verdict_from m call ≡ meant m call verdict
      verdict_is =
          ap (outcome (content m.cache)) look_is ∙ (made_so verdict comes.made comes.walked comes.verdict_is).1

      abbrev pub can_reply : (reply : Reply) → reply_now (meant m call verdict) ≡ Some reply → CanReply m call
      can_reply reply is = record {
        covered = subst (λ (l : Look Meant). IsCovered (held_of m) (content m.cache) l) (sym look_is)
            (made_so verdict comes.made comes.walked comes.verdict_is).0;
        reply = reply;
        settled = ap reply_now verdict_is ∙ is;
      }

      no_reply : reply_now (meant m call verdict) ≡ None → CanReply m call → ⊥
      no_reply none can = none_some can.reply (sym (ap reply_now verdict_is ∙ none) ∙ can.settled)

      -- there isn't room for it, or it has no spelling that can be read back
      abbrev pub IsUnspelled : List ℕ → CanReply m call → Type 0
      IsUnspelled old can =
          (length old < length (spell_reply can.reply).bytes) ⊎ ((spell_reply can.reply).fits ≡ false)

      pub is_silent : (old new : List ℕ) → Spells (reply_now (meant m call verdict)) old new None →
          (CanReply m call → ⊥) ⊎ ((can : CanReply m call) × IsUnspelled old can)
      is_silent old new spells = by_reply (reply_now (meant m call verdict)) refl spells
        where
          by_reply : (o : Option Reply) → reply_now (meant m call verdict) ≡ o → Spells o old new None →
              (CanReply m call → ⊥) ⊎ ((can : CanReply m call) × IsUnspelled old can)
          by_reply None is s = inl (no_reply is)
          by_reply (Some reply) is (inl short) =
              let low : length old < length (spell_reply reply).bytes = omega (arith, short) in
              inr (can_reply reply is, inl low)
          by_reply (Some reply) is (inr unfit) = inr (can_reply reply is, inr unfit)

      pub speaks : (old new : List ℕ) (count : ℕ) → Spells (reply_now (meant m call verdict)) old new (Some count) →
          (marked after : Tables) → MarksUsed m call root path verdict marked →
          after ≡ record marked { begun = m.begun + 1; lost = [] } → SpeaksAtOnce m after call new count
      speaks old new count spells marked after marks after_is =
          by_reply (reply_now (meant m call verdict)) refl spells
        where
          by_reply : (o : Option Reply) → reply_now (meant m call verdict) ≡ o → Spells o old new (Some count) →
              SpeaksAtOnce m after call new count
          by_reply None is s = absurd (none_some count (sym s))
          by_reply (Some reply) is s =
              let low = s.0.1 in
              let same = s.0.2 in record {
                tells = told_tells call place told;
                can = can_reply reply is;
                room = omega (arith, low, same);
                spelled = s.0.3;
                fits = s.1;
                root = root;
                path = path;
                walks = walks;
                verdict = verdict;
                comes = comes;
                right = is;
                marked = marked;
                marks = marks;
                after = after_is;
              }

    -- ---- all of it
    pub along_silent : (old new : List ℕ) (after : Tables) → SpeaksAlong m call root path old new after None →
        StaysSilent m after call (length old)
    along_silent old new after (LacksIt need lack same) = (same, inr (inl (no_lack need lack)))
    along_silent old new after (IsSilent verdict comes spells same) = (
      same,
      elim (is_silent verdict comes old new spells) [
        | inl none ↦ inr (inl none)
        | inr short ↦ inr (inr (inl short))
      ],
    )

    pub along_speaks : (old new : List ℕ) (marked after : Tables) (count : ℕ) →
        SpeaksAlong m call root path old new marked (Some count) →
        after ≡ record marked { begun = m.begun + 1; lost = [] } → SpeaksAtOnce m after call new count
    along_speaks old new marked after count (Speaks verdict comes c spells marks) after_is =
        speaks verdict comes old new count spells marked after marks after_is

    pub counted_so : (begun : ℕ) → begun ≡ m.begun + 1 → (old out : List ℕ) (after : Tables) (result : Option ℕ) →
        SpeaksCounted m call root path begun old out after result →
        MatchOption result (StaysSilent m after call (length old)) (λ count. SpeaksAtOnce m after call out count)
    counted_so begun is old out after None s = along_silent old out after s
    counted_so begun is old out after (Some count) s =
        along_speaks old out s.0 after count s.1 (s.2 ∙ ap (λ (b : ℕ). with_begun s.0 b) is)
      where
        with_begun : Tables → ℕ → Tables
        with_begun t b = record t { begun = b; lost = [] }

-- ---- what the verdict is
pub along_by : (m : Tables) (call : Call) (root : Fid) (path : List (List ℕ)) (verdict : Result Verdict Refusal) →
    ComesTo m call root path verdict → (old new : List ℕ) (after : Tables) (result : Option ℕ) →
    Spells (reply_now (meant m call verdict)) old new result →
    MatchOption result (after ≡ m) (λ count. MarksUsed m call root path verdict after) →
    SpeaksAlong m call root path old new after result
along_by m call root path verdict comes old new after None s same = IsSilent verdict comes s same
along_by m call root path verdict comes old new after (Some count) s marks = Speaks verdict comes count s marks

pub comes_refused : (m : Tables) (call : Call) (root : Fid) (path : List (List ℕ)) (refusal : Refusal) →
    Walked m call root path (Err (Refused refusal)) → ComesTo m call root path (Err refusal)
comes_refused m call root path refusal w = record {
  made = Err (Refused refusal);
  walked = w;
  leads = λ v is. absurd (cc);
  verdict_is = refl;
}

pub comes_to : (m : Tables) (call : Call) (root : Fid) (path : List (List ℕ)) (verdict : Verdict) →
    Walked m call root path (Ok verdict) → LeadsSo m call root path verdict → ComesTo m call root path (Ok verdict)
comes_to m call root path verdict w leads = record {
  made = Ok verdict;
  walked = w;
  leads = λ v is. subst (λ (r : Result Verdict Refusal). IfOk r (λ x. LeadsSo m call root path x)) is leads;
  verdict_is = refl;
}

pub backed_read : (m : Tables) (call : Call) (verdict : Verdict) → IsBacked m call (Ok verdict) → CanRead m (Ok verdict)
backed_read m call (Reads fid span) b = b
backed_read m call verdict b = tt

-- a verdict by which the call is done
pub done_else : (m : Tables) (call : Call) (verdict : Verdict) →
    ((fid : Fid) (span : Span) → verdict ≡ Reads fid span → ⊥) → ((fid : Fid) → verdict ≡ Lists fid → ⊥) →
    ((fid : Fid) → verdict ≡ Tells fid → ⊥) → ((fid : Fid) (which : Which) → verdict ≡ Shows fid which → ⊥) →
    ((fid : Fid) → verdict ≡ Syncs fid → ⊥) → (verdict ≡ Gives → ⊥) →
    ((question : Question) → verdict ≡ Asks question → ⊥) → reply_now (meant m call (Ok verdict)) ≡ Some Done
done_else m call (Reads fid span) r l t s y g a = absurd (r fid span refl)
done_else m call (Lists fid) r l t s y g a = absurd (l fid refl)
done_else m call (Tells fid) r l t s y g a = absurd (t fid refl)
done_else m call (Shows fid which) r l t s y g a = absurd (s fid which refl)
done_else m call (Syncs fid) r l t s y g a = absurd (y fid refl)
done_else m call Gives r l t s y g a = absurd (g refl)
done_else m call (Asks question) r l t s y g a = absurd (a question refl)
done_else m call Does r l t s y g a = refl
done_else m call (Writes fid from to) r l t s y g a = refl
done_else m call (Uses fid (LockToken writing span)) r l t s y g a = refl
done_else m call (Uses fid (Opening kind)) r l t s y g a = refl
done_else m call (Uses fid (Bytes update span)) r l t s y g a = refl
done_else m call (Uses fid (Status update)) r l t s y g a = refl
done_else m call Frees r l t s y g a = refl
