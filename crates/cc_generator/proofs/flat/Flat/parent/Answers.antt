use Rattle.cc_generator.proofs.Numbers.{HasParentOrNone-stored, root-parent, before-parent, child-parent}
use Rattle.cc_generator.proofs.flat.Flat.parent.Goals as goal

pub returns-clause-root : goal.returns-clause-root
returns-clause-root c =
    root-parent c.args.self.now c.args.number c.index.result.now.parent
    (HasParentOrNone-stored c.args.self.now c.self.inside.nodes.items c.args.number c.index.result.now c.self.view_is c.self.invariant c.requires c.index.ensures)

pub returns-clause-before : goal.returns-clause-before
returns-clause-before c =
    before-parent c.args.self.now c.args.number c.index.result.now.parent
    (HasParentOrNone-stored c.args.self.now c.self.inside.nodes.items c.args.number c.index.result.now c.self.view_is c.self.invariant c.requires c.index.ensures)

pub returns-clause-child : goal.returns-clause-child
returns-clause-child c =
    child-parent c.args.self.now c.args.number c.index.result.now.parent
    (HasParentOrNone-stored c.args.self.now c.self.inside.nodes.items c.args.number c.index.result.now c.self.view_is c.self.invariant c.requires c.index.ensures)
