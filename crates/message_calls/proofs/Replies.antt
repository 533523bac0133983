-- Reading replies is right.
use Rattle.std.proofs.Common.{◌≡◌, ℕ, zero, suc, ◌≤◌, Bool, List, Ok, refl, sym, ap, arith, lit<}
use Rattle.base_types.specs.declared.access.AccessEntry.{AccessEntry}
use Rattle.tree_calls.specs.declared.reply.Facts.{Facts}
use Rattle.tree_calls.specs.declared.reply.Refusal.{Refusal}
use Rattle.tree_calls.specs.declared.reply.Refusal.TheVariants.{NoEntry, NotDir, IsDir, Exists, NotEmpty, Denied, TooBig, TooMany, NoRoom, ReadOnly, Locked, OpenConflict, InUse, Loop, NoFileset, CrossFileset, NotLocked, NotOpened, AlreadyLocked, AlreadyOpened, NotHome}
use Rattle.tree_calls.specs.declared.reply.Reply.{Reply}
use Rattle.tree_calls.specs.declared.reply.Reply.TheVariants.{Ok as ReplyOk, Bytes, Names, Facts as FactsOf, Access, Refused}
use Rattle.message_parts.specs.Spelled.{◌&◌, number}
use Rattle.message_parts.specs.Reading.{◌>>=◌, number_at}
use Rattle.message_parts.specs.Words.{spell_u32, u32_at, spell_flag, flag_at, short, short_at, spell_name, name_at, spell_bytes, bytes_at}
use Rattle.message_parts.proofs.More.{more_right}
use Rattle.message_parts.proofs.Parts.{end_right, last_right, mapped}
use Rattle.message_parts.proofs.Numbers.{number_right}
use Rattle.message_parts.proofs.Right.{Right, Any, same, IsRight}
use Rattle.message_parts.proofs.Words.{u32_right, variant_right, flag_right, code_bounds, short_right, name_right, bytes_right}
use Rattle.message_parts.specs.Places.{spell_rights, rights_at}
use Rattle.message_parts.specs.Access.{spell_access, access_at}
use Rattle.message_calls.specs.Replies.{spell_facts, facts_at, refusal_tag, refusal_fields, refusal_of, spell_refusal, refusal_at, refusal_denied_at, reply_tag, reply_fields, reply_of, spell_reply, reply_at, reply_bytes_at, reply_names_at, reply_facts_of_at, reply_access_at, reply_refused_at}
use Rattle.message_parts.proofs.Places.{rights_right}
use Rattle.message_parts.proofs.Access.{access_right}

abbrev pub made_facts : (Bool × ℕ × List ℕ × ℕ) → Facts
made_facts t = record { dir = t.0; length = t.1; owner = t.2; rights = t.3 }

pub facts_parts : Right Any (λ t. spell_facts (made_facts t)) made_facts facts_at
unfolding spell_facts facts_at
facts_parts =
    more_right (λ (t : (Bool × ℕ × List ℕ × ℕ)). Any t) spell_flag (λ t. spell_u32 t.1 & spell_name t.2 & spell_rights t.3) (λ t. t.0) made_facts flag_at
    (λ a0 rest. u32_at rest >>= λ a1 rest. name_at rest >>= λ a2 rest. rights_at rest >>= λ a3 rest. Ok (record { dir = a0; length = a1; owner = a2; rights = a3 }, rest)) flag_right
    (λ a0 f0. more_right (λ (t : (Bool × ℕ × List ℕ × ℕ)). (Any t × (t.0 ≡ a0))) spell_u32 (λ t. spell_name t.2 & spell_rights t.3) (λ t. t.1) made_facts u32_at
    (λ a1 rest. name_at rest >>= λ a2 rest. rights_at rest >>= λ a3 rest. Ok (record { dir = a0; length = a1; owner = a2; rights = a3 }, rest)) u32_right
    (λ a1 f1. more_right (λ (t : (Bool × ℕ × List ℕ × ℕ)). ((Any t × (t.0 ≡ a0)) × (t.1 ≡ a1))) spell_name (λ t. spell_rights t.3) (λ t. t.2) made_facts name_at
    (λ a2 rest. rights_at rest >>= λ a3 rest. Ok (record { dir = a0; length = a1; owner = a2; rights = a3 }, rest)) name_right
    (λ a2 f2. last_right (λ (t : (Bool × ℕ × List ℕ × ℕ)). (((Any t × (t.0 ≡ a0)) × (t.1 ≡ a1)) × (t.2 ≡ a2))) Any spell_rights (λ t. t.3) made_facts (λ z. record { dir = a0; length = a1; owner = a2; rights = z }) rights_at (λ z any. ((a0, a1, a2, z), (((tt, refl), refl), refl), refl)) (λ t c. (tt, cc)) rights_right)))

pub facts_right : IsRight spell_facts facts_at
facts_right = variant_right Any spell_facts made_facts facts_at (λ t. tt) (λ a c. ((a.dir, a.length, a.owner, a.rights), refl)) facts_parts

is_refusal_no_entry : (x : Refusal) → refusal_tag x ≡ 1 → NoEntry ≡ x
is_refusal_no_entry NoEntry e = refl
is_refusal_no_entry _ e = absurd (omega (arith, e))

is_refusal_not_dir : (x : Refusal) → refusal_tag x ≡ 2 → NotDir ≡ x
is_refusal_not_dir NotDir e = refl
is_refusal_not_dir _ e = absurd (omega (arith, e))

is_refusal_is_dir : (x : Refusal) → refusal_tag x ≡ 3 → IsDir ≡ x
is_refusal_is_dir IsDir e = refl
is_refusal_is_dir _ e = absurd (omega (arith, e))

is_refusal_exists : (x : Refusal) → refusal_tag x ≡ 4 → Exists ≡ x
is_refusal_exists Exists e = refl
is_refusal_exists _ e = absurd (omega (arith, e))

is_refusal_not_empty : (x : Refusal) → refusal_tag x ≡ 5 → NotEmpty ≡ x
is_refusal_not_empty NotEmpty e = refl
is_refusal_not_empty _ e = absurd (omega (arith, e))

abbrev pub made_refusal_denied : ℕ → Refusal
made_refusal_denied t = Denied t

pub refusal_denied_parts : Right Any (λ t. refusal_fields (made_refusal_denied t)) made_refusal_denied refusal_denied_at
unfolding refusal_fields refusal_denied_at
refusal_denied_parts =
    mapped Any spell_rights same made_refusal_denied rights_at rights_right

is_refusal_denied : (x : Refusal) → refusal_tag x ≡ 6 → (t : ℕ) × (made_refusal_denied t ≡ x)
is_refusal_denied (Denied rights) e = (rights, refl)
is_refusal_denied _ e = absurd (omega (arith, e))

is_refusal_too_big : (x : Refusal) → refusal_tag x ≡ 7 → TooBig ≡ x
is_refusal_too_big TooBig e = refl
is_refusal_too_big _ e = absurd (omega (arith, e))

is_refusal_too_many : (x : Refusal) → refusal_tag x ≡ 8 → TooMany ≡ x
is_refusal_too_many TooMany e = refl
is_refusal_too_many _ e = absurd (omega (arith, e))

is_refusal_no_room : (x : Refusal) → refusal_tag x ≡ 9 → NoRoom ≡ x
is_refusal_no_room NoRoom e = refl
is_refusal_no_room _ e = absurd (omega (arith, e))

is_refusal_read_only : (x : Refusal) → refusal_tag x ≡ 10 → ReadOnly ≡ x
is_refusal_read_only ReadOnly e = refl
is_refusal_read_only _ e = absurd (omega (arith, e))

is_refusal_locked : (x : Refusal) → refusal_tag x ≡ 11 → Locked ≡ x
is_refusal_locked Locked e = refl
is_refusal_locked _ e = absurd (omega (arith, e))

is_refusal_open_conflict : (x : Refusal) → refusal_tag x ≡ 12 → OpenConflict ≡ x
is_refusal_open_conflict OpenConflict e = refl
is_refusal_open_conflict _ e = absurd (omega (arith, e))

is_refusal_in_use : (x : Refusal) → refusal_tag x ≡ 13 → InUse ≡ x
is_refusal_in_use InUse e = refl
is_refusal_in_use _ e = absurd (omega (arith, e))

is_refusal_loop : (x : Refusal) → refusal_tag x ≡ 14 → Loop ≡ x
is_refusal_loop Loop e = refl
is_refusal_loop _ e = absurd (omega (arith, e))

is_refusal_no_fileset : (x : Refusal) → refusal_tag x ≡ 15 → NoFileset ≡ x
is_refusal_no_fileset NoFileset e = refl
is_refusal_no_fileset _ e = absurd (omega (arith, e))

is_refusal_cross_fileset : (x : Refusal) → refusal_tag x ≡ 16 → CrossFileset ≡ x
is_refusal_cross_fileset CrossFileset e = refl
is_refusal_cross_fileset _ e = absurd (omega (arith, e))

is_refusal_not_locked : (x : Refusal) → refusal_tag x ≡ 17 → NotLocked ≡ x
is_refusal_not_locked NotLocked e = refl
is_refusal_not_locked _ e = absurd (omega (arith, e))

is_refusal_not_opened : (x : Refusal) → refusal_tag x ≡ 18 → NotOpened ≡ x
is_refusal_not_opened NotOpened e = refl
is_refusal_not_opened _ e = absurd (omega (arith, e))

is_refusal_already_locked : (x : Refusal) → refusal_tag x ≡ 19 → AlreadyLocked ≡ x
is_refusal_already_locked AlreadyLocked e = refl
is_refusal_already_locked _ e = absurd (omega (arith, e))

is_refusal_already_opened : (x : Refusal) → refusal_tag x ≡ 20 → AlreadyOpened ≡ x
is_refusal_already_opened AlreadyOpened e = refl
is_refusal_already_opened _ e = absurd (omega (arith, e))

is_refusal_not_home : (x : Refusal) → refusal_tag x ≡ 21 → NotHome ≡ x
is_refusal_not_home NotHome e = refl
is_refusal_not_home _ e = absurd (omega (arith, e))

pub refusal_rest : (tag : ℕ) → 1 ≤ tag → tag ≤ 21 → Right (λ x. Any x × (refusal_tag x ≡ tag)) refusal_fields same (refusal_of tag)
unfolding refusal_of refusal_fields
refusal_rest zero l h = absurd (omega (arith, l))
refusal_rest (suc zero) l h = end_right (λ x. Any x × (refusal_tag x ≡ 1)) refusal_fields same NoEntry NoEntry (tt, refl) refl (λ x c f. (sym (is_refusal_no_entry x c.1), ap (λ v. (refusal_fields v).bytes) (sym (is_refusal_no_entry x c.1))))
refusal_rest (suc (suc zero)) l h = end_right (λ x. Any x × (refusal_tag x ≡ 2)) refusal_fields same NotDir NotDir (tt, refl) refl (λ x c f. (sym (is_refusal_not_dir x c.1), ap (λ v. (refusal_fields v).bytes) (sym (is_refusal_not_dir x c.1))))
refusal_rest (suc (suc (suc zero))) l h = end_right (λ x. Any x × (refusal_tag x ≡ 3)) refusal_fields same IsDir IsDir (tt, refl) refl (λ x c f. (sym (is_refusal_is_dir x c.1), ap (λ v. (refusal_fields v).bytes) (sym (is_refusal_is_dir x c.1))))
refusal_rest (suc (suc (suc (suc zero)))) l h = end_right (λ x. Any x × (refusal_tag x ≡ 4)) refusal_fields same Exists Exists (tt, refl) refl (λ x c f. (sym (is_refusal_exists x c.1), ap (λ v. (refusal_fields v).bytes) (sym (is_refusal_exists x c.1))))
refusal_rest (suc (suc (suc (suc (suc zero))))) l h = end_right (λ x. Any x × (refusal_tag x ≡ 5)) refusal_fields same NotEmpty NotEmpty (tt, refl) refl (λ x c f. (sym (is_refusal_not_empty x c.1), ap (λ v. (refusal_fields v).bytes) (sym (is_refusal_not_empty x c.1))))
refusal_rest (suc (suc (suc (suc (suc (suc zero)))))) l h = variant_right (λ x. Any x × (refusal_tag x ≡ 6)) refusal_fields made_refusal_denied (refusal_of 6) (λ t. (tt, refl)) (λ a c. is_refusal_denied a c.1) refusal_denied_parts
refusal_rest (suc (suc (suc (suc (suc (suc (suc zero))))))) l h = end_right (λ x. Any x × (refusal_tag x ≡ 7)) refusal_fields same TooBig TooBig (tt, refl) refl (λ x c f. (sym (is_refusal_too_big x c.1), ap (λ v. (refusal_fields v).bytes) (sym (is_refusal_too_big x c.1))))
refusal_rest (suc (suc (suc (suc (suc (suc (suc (suc zero)))))))) l h = end_right (λ x. Any x × (refusal_tag x ≡ 8)) refusal_fields same TooMany TooMany (tt, refl) refl (λ x c f. (sym (is_refusal_too_many x c.1), ap (λ v. (refusal_fields v).bytes) (sym (is_refusal_too_many x c.1))))
refusal_rest (suc (suc (suc (suc (suc (suc (suc (suc (suc zero))))))))) l h = end_right (λ x. Any x × (refusal_tag x ≡ 9)) refusal_fields same NoRoom NoRoom (tt, refl) refl (λ x c f. (sym (is_refusal_no_room x c.1), ap (λ v. (refusal_fields v).bytes) (sym (is_refusal_no_room x c.1))))
refusal_rest (suc (suc (suc (suc (suc (suc (suc (suc (suc (suc zero)))))))))) l h = end_right (λ x. Any x × (refusal_tag x ≡ 10)) refusal_fields same ReadOnly ReadOnly (tt, refl) refl (λ x c f. (sym (is_refusal_read_only x c.1), ap (λ v. (refusal_fields v).bytes) (sym (is_refusal_read_only x c.1))))
refusal_rest (suc (suc (suc (suc (suc (suc (suc (suc (suc (suc (suc zero))))))))))) l h = end_right (λ x. Any x × (refusal_tag x ≡ 11)) refusal_fields same Locked Locked (tt, refl) refl (λ x c f. (sym (is_refusal_locked x c.1), ap (λ v. (refusal_fields v).bytes) (sym (is_refusal_locked x c.1))))
refusal_rest (suc (suc (suc (suc (suc (suc (suc (suc (suc (suc (suc (suc zero)))))))))))) l h = end_right (λ x. Any x × (refusal_tag x ≡ 12)) refusal_fields same OpenConflict OpenConflict (tt, refl) refl (λ x c f. (sym (is_refusal_open_conflict x c.1), ap (λ v. (refusal_fields v).bytes) (sym (is_refusal_open_conflict x c.1))))
refusal_rest (suc (suc (suc (suc (suc (suc (suc (suc (suc (suc (suc (suc (suc zero))))))))))))) l h = end_right (λ x. Any x × (refusal_tag x ≡ 13)) refusal_fields same InUse InUse (tt, refl) refl (λ x c f. (sym (is_refusal_in_use x c.1), ap (λ v. (refusal_fields v).bytes) (sym (is_refusal_in_use x c.1))))
refusal_rest (suc (suc (suc (suc (suc (suc (suc (suc (suc (suc (suc (suc (suc (suc zero)))))))))))))) l h = end_right (λ x. Any x × (refusal_tag x ≡ 14)) refusal_fields same Loop Loop (tt, refl) refl (λ x c f. (sym (is_refusal_loop x c.1), ap (λ v. (refusal_fields v).bytes) (sym (is_refusal_loop x c.1))))
refusal_rest (suc (suc (suc (suc (suc (suc (suc (suc (suc (suc (suc (suc (suc (suc (suc zero))))))))))))))) l h = end_right (λ x. Any x × (refusal_tag x ≡ 15)) refusal_fields same NoFileset NoFileset (tt, refl) refl (λ x c f. (sym (is_refusal_no_fileset x c.1), ap (λ v. (refusal_fields v).bytes) (sym (is_refusal_no_fileset x c.1))))
refusal_rest (suc (suc (suc (suc (suc (suc (suc (suc (suc (suc (suc (suc (suc (suc (suc (suc zero)))))))))))))))) l h = end_right (λ x. Any x × (refusal_tag x ≡ 16)) refusal_fields same CrossFileset CrossFileset (tt, refl) refl (λ x c f. (sym (is_refusal_cross_fileset x c.1), ap (λ v. (refusal_fields v).bytes) (sym (is_refusal_cross_fileset x c.1))))
refusal_rest (suc (suc (suc (suc (suc (suc (suc (suc (suc (suc (suc (suc (suc (suc (suc (suc (suc zero))))))))))))))))) l h = end_right (λ x. Any x × (refusal_tag x ≡ 17)) refusal_fields same NotLocked NotLocked (tt, refl) refl (λ x c f. (sym (is_refusal_not_locked x c.1), ap (λ v. (refusal_fields v).bytes) (sym (is_refusal_not_locked x c.1))))
refusal_rest (suc (suc (suc (suc (suc (suc (suc (suc (suc (suc (suc (suc (suc (suc (suc (suc (suc (suc zero)))))))))))))))))) l h = end_right (λ x. Any x × (refusal_tag x ≡ 18)) refusal_fields same NotOpened NotOpened (tt, refl) refl (λ x c f. (sym (is_refusal_not_opened x c.1), ap (λ v. (refusal_fields v).bytes) (sym (is_refusal_not_opened x c.1))))
refusal_rest (suc (suc (suc (suc (suc (suc (suc (suc (suc (suc (suc (suc (suc (suc (suc (suc (suc (suc (suc zero))))))))))))))))))) l h = end_right (λ x. Any x × (refusal_tag x ≡ 19)) refusal_fields same AlreadyLocked AlreadyLocked (tt, refl) refl (λ x c f. (sym (is_refusal_already_locked x c.1), ap (λ v. (refusal_fields v).bytes) (sym (is_refusal_already_locked x c.1))))
refusal_rest (suc (suc (suc (suc (suc (suc (suc (suc (suc (suc (suc (suc (suc (suc (suc (suc (suc (suc (suc (suc zero)))))))))))))))))))) l h = end_right (λ x. Any x × (refusal_tag x ≡ 20)) refusal_fields same AlreadyOpened AlreadyOpened (tt, refl) refl (λ x c f. (sym (is_refusal_already_opened x c.1), ap (λ v. (refusal_fields v).bytes) (sym (is_refusal_already_opened x c.1))))
refusal_rest (suc (suc (suc (suc (suc (suc (suc (suc (suc (suc (suc (suc (suc (suc (suc (suc (suc (suc (suc (suc (suc zero))))))))))))))))))))) l h = end_right (λ x. Any x × (refusal_tag x ≡ 21)) refusal_fields same NotHome NotHome (tt, refl) refl (λ x c f. (sym (is_refusal_not_home x c.1), ap (λ v. (refusal_fields v).bytes) (sym (is_refusal_not_home x c.1))))
refusal_rest (suc (suc (suc (suc (suc (suc (suc (suc (suc (suc (suc (suc (suc (suc (suc (suc (suc (suc (suc (suc (suc (suc n)))))))))))))))))))))) l h = absurd (omega (arith, h))

pub refusal_right : IsRight spell_refusal refusal_at
unfolding spell_refusal refusal_at
refusal_right = more_right Any (number 1 1 21) refusal_fields refusal_tag same (number_at 1 1 21) (λ tag rest. refusal_of tag rest)
    (number_right 1 21 (omega arith) 1 (omega arith))
    (λ tag f. let b = code_bounds 1 21 tag f in refusal_rest tag b.0 b.1)

is_reply_reply_ok : (x : Reply) → reply_tag x ≡ 0 → ReplyOk ≡ x
is_reply_reply_ok ReplyOk e = refl
is_reply_reply_ok _ e = absurd (omega (arith, e))

abbrev pub made_reply_bytes : (List ℕ) → Reply
made_reply_bytes t = Bytes t

pub reply_bytes_parts : Right Any (λ t. reply_fields (made_reply_bytes t)) made_reply_bytes reply_bytes_at
unfolding reply_fields reply_bytes_at
reply_bytes_parts =
    mapped Any (spell_bytes 4294967295) same made_reply_bytes (bytes_at 4294967295) (bytes_right 4294967295 (lit< tt))

is_reply_bytes : (x : Reply) → reply_tag x ≡ 1 → (t : (List ℕ)) × (made_reply_bytes t ≡ x)
is_reply_bytes (Bytes bytes) e = (bytes, refl)
is_reply_bytes _ e = absurd (omega (arith, e))

abbrev pub made_reply_names : (List (List ℕ)) → Reply
made_reply_names t = Names t

pub reply_names_parts : Right Any (λ t. reply_fields (made_reply_names t)) made_reply_names reply_names_at
unfolding reply_fields reply_names_at
reply_names_parts =
    mapped Any (short spell_name) same made_reply_names (short_at name_at) (short_right spell_name name_at name_right)

is_reply_names : (x : Reply) → reply_tag x ≡ 2 → (t : (List (List ℕ))) × (made_reply_names t ≡ x)
is_reply_names (Names names) e = (names, refl)
is_reply_names _ e = absurd (omega (arith, e))

abbrev pub made_reply_facts_of : Facts → Reply
made_reply_facts_of t = FactsOf t

pub reply_facts_of_parts : Right Any (λ t. reply_fields (made_reply_facts_of t)) made_reply_facts_of reply_facts_of_at
unfolding reply_fields reply_facts_of_at
reply_facts_of_parts =
    mapped Any spell_facts same made_reply_facts_of facts_at facts_right

is_reply_facts_of : (x : Reply) → reply_tag x ≡ 3 → (t : Facts) × (made_reply_facts_of t ≡ x)
is_reply_facts_of (FactsOf facts) e = (facts, refl)
is_reply_facts_of _ e = absurd (omega (arith, e))

abbrev pub made_reply_access : (List AccessEntry) → Reply
made_reply_access t = Access t

pub reply_access_parts : Right Any (λ t. reply_fields (made_reply_access t)) made_reply_access reply_access_at
unfolding reply_fields reply_access_at
reply_access_parts =
    mapped Any spell_access same made_reply_access access_at access_right

is_reply_access : (x : Reply) → reply_tag x ≡ 4 → (t : (List AccessEntry)) × (made_reply_access t ≡ x)
is_reply_access (Access list) e = (list, refl)
is_reply_access _ e = absurd (omega (arith, e))

abbrev pub made_reply_refused : Refusal → Reply
made_reply_refused t = Refused t

pub reply_refused_parts : Right Any (λ t. reply_fields (made_reply_refused t)) made_reply_refused reply_refused_at
unfolding reply_fields reply_refused_at
reply_refused_parts =
    mapped Any spell_refusal same made_reply_refused refusal_at refusal_right

is_reply_refused : (x : Reply) → reply_tag x ≡ 5 → (t : Refusal) × (made_reply_refused t ≡ x)
is_reply_refused (Refused refusal) e = (refusal, refl)
is_reply_refused _ e = absurd (omega (arith, e))

pub reply_rest : (tag : ℕ) → 0 ≤ tag → tag ≤ 5 → Right (λ x. Any x × (reply_tag x ≡ tag)) reply_fields same (reply_of tag)
unfolding reply_of reply_fields
reply_rest zero l h = end_right (λ x. Any x × (reply_tag x ≡ 0)) reply_fields same ReplyOk ReplyOk (tt, refl) refl (λ x c f. (sym (is_reply_reply_ok x c.1), ap (λ v. (reply_fields v).bytes) (sym (is_reply_reply_ok x c.1))))
reply_rest (suc zero) l h = variant_right (λ x. Any x × (reply_tag x ≡ 1)) reply_fields made_reply_bytes (reply_of 1) (λ t. (tt, refl)) (λ a c. is_reply_bytes a c.1) reply_bytes_parts
reply_rest (suc (suc zero)) l h = variant_right (λ x. Any x × (reply_tag x ≡ 2)) reply_fields made_reply_names (reply_of 2) (λ t. (tt, refl)) (λ a c. is_reply_names a c.1) reply_names_parts
reply_rest (suc (suc (suc zero))) l h = variant_right (λ x. Any x × (reply_tag x ≡ 3)) reply_fields made_reply_facts_of (reply_of 3) (λ t. (tt, refl)) (λ a c. is_reply_facts_of a c.1) reply_facts_of_parts
reply_rest (suc (suc (suc (suc zero)))) l h = variant_right (λ x. Any x × (reply_tag x ≡ 4)) reply_fields made_reply_access (reply_of 4) (λ t. (tt, refl)) (λ a c. is_reply_access a c.1) reply_access_parts
reply_rest (suc (suc (suc (suc (suc zero))))) l h = variant_right (λ x. Any x × (reply_tag x ≡ 5)) reply_fields made_reply_refused (reply_of 5) (λ t. (tt, refl)) (λ a c. is_reply_refused a c.1) reply_refused_parts
reply_rest (suc (suc (suc (suc (suc (suc n)))))) l h = absurd (omega (arith, h))

pub reply_right : IsRight spell_reply reply_at
unfolding spell_reply reply_at
reply_right = more_right Any (number 1 0 5) reply_fields reply_tag same (number_at 1 0 5) (λ tag rest. reply_of tag rest)
    (number_right 0 5 (omega arith) 1 (omega arith))
    (λ tag f. let b = code_bounds 0 5 tag f in reply_rest tag b.0 b.1)
