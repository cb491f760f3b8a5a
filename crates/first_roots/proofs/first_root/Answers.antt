-- `first_roots::first_root` meets its contract.
use Rattle.std.proofs.Common.{ℕ, ◌*◌, ◌/◌, ◌^◌, ◌+◌, ◌-◌, subst, sym, arith, get_or}
use Rattle.first_roots.specs.FirstRoots.{IsFirstRoot, IsReciprocal}
use Rattle.first_roots.specs.Near.{first_root_is_near, whole_root_is_near}
use Rattle.first_roots.proofs.Tables.{entry_is_first_root, entry_is_reciprocal}
use Rattle.first_roots.specs.declared.TheConstants.{FIRST_ROOTS}
use Rattle.first_roots.proofs.first_root.Goals as goal

pub returns-clause-root : goal.returns-clause-root
returns-clause-root c =
    subst (λ (e : ℕ). IsFirstRoot (c.args.n / 2 ^ 52) e) (sym c.from.ensures) (entry_is_first_root (c.args.n / 2 ^ 52) _ (omega (arith, c.requires)) (omega (arith, c.requires)))

pub returns-clause-scaled : goal.returns-clause-scaled
returns-clause-scaled c = first_root_is_near c.args.n c.from.result c.requires.least c.requires.most (returns-clause-root c)

pub returns-clause-whole : goal.returns-clause-whole
returns-clause-whole c r i = whole_root_is_near (c.args.n * 2 ^ 48) (c.from.result * 2 ^ 40) r (returns-clause-scaled c) i

pub returns-clause-reciprocal : goal.returns-clause-reciprocal
returns-clause-reciprocal c =
    subst (λ (e : ℕ). IsReciprocal (e + 16) c.from-2.result) (sym c.from.ensures)
    (subst (λ (r : ℕ). IsReciprocal (get_or FIRST_ROOTS (c.args.n / 2 ^ 52 - 256) _ + 16) r) (sym c.from-2.ensures) (entry_is_reciprocal (c.args.n / 2 ^ 52) _ (omega (arith, c.requires)) (omega (arith, c.requires))))
