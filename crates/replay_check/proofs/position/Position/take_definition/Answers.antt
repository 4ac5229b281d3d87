use Rattle.std.proofs.Common.{refl, sym, ◌∙◌, add-one}
use Rattle.replay_check.proofs.Later.{definition_stays}
use Rattle.replay_check.proofs.Taking.{position_stays}
use Rattle.replay_check.proofs.Defining.{gains_tables, gains_further, may_still, off_still, typed_still, report_still, accepted}
use Rattle.replay_check.proofs.position.Position.take_definition.Goals as goal

pub definition_report-requires-clause-position : goal.definition_report-requires-clause-position
definition_report-requires-clause-position c = position_stays _ _ c.is_off_base.ensures.grows c.requires.position

pub definition_report-requires-clause-definition : goal.definition_report-requires-clause-definition
definition_report-requires-clause-definition c = definition_stays _ _ c.args.definition c.is_off_base.ensures.grows.grows c.requires.definition

pub says-requires-clause-definition : goal.says-requires-clause-definition
says-requires-clause-definition c = definition_stays _ _ c.args.definition (gains_further _ _ _ c.is_off_base.ensures.grows c.definition_report.ensures.grows).grows c.requires.definition

pub says-requires-clause-typed : goal.says-requires-clause-typed
says-requires-clause-typed c = typed_still _ _ c.args.definition (gains_further _ _ _ c.is_off_base.ensures.grows c.definition_report.ensures.grows) c.requires.position c.requires.definition c.requires.new

pub define-requires-clause-position : goal.define-requires-clause-position
define-requires-clause-position c = position_stays _ _ (gains_tables c.args.self.now c.definition_report.new.self c.says.new.tables (gains_further _ _ _ c.is_off_base.ensures.grows c.definition_report.ensures.grows) c.says.ensures.grows) c.requires.position

pub define-requires-clause-definition : goal.define-requires-clause-definition
define-requires-clause-definition c = definition_stays _ _ c.args.definition (gains_tables c.args.self.now c.definition_report.new.self c.says.new.tables (gains_further _ _ _ c.is_off_base.ensures.grows c.definition_report.ensures.grows) c.says.ensures.grows).grows c.requires.definition

pub define-requires-clause-new : goal.define-requires-clause-new
define-requires-clause-new c = may_still _ _ c.args.definition (gains_tables c.args.self.now c.definition_report.new.self c.says.new.tables (gains_further _ _ _ c.is_off_base.ensures.grows c.definition_report.ensures.grows) c.says.ensures.grows) c.requires.position c.requires.definition c.requires.new

pub define-requires-clause-stands : goal.define-requires-clause-stands
define-requires-clause-stands c = off_still _ _ c.args.definition _ (gains_tables c.args.self.now c.definition_report.new.self c.says.new.tables (gains_further _ _ _ c.is_off_base.ensures.grows c.definition_report.ensures.grows) c.says.ensures.grows) c.requires.position c.requires.definition (sym c.in_ok-is_off_base.ensures.ok ∙ c.if-branch.false)

pub returns : goal.returns
returns c =
    accepted c.args.self.now c.definition_report.new.self _ c.define.new.self _ c.args.definition c.in_ok-said.said.items c.in_ok-report.report c.requires.position c.requires.definition (sym c.in_ok-is_off_base.ensures.ok ∙ c.if-branch.false)
    (gains_further _ _ _ c.is_off_base.ensures.grows c.definition_report.ensures.grows) (gains_tables c.args.self.now c.definition_report.new.self c.says.new.tables (gains_further _ _ _ c.is_off_base.ensures.grows c.definition_report.ensures.grows) c.says.ensures.grows) c.in_ok-said.ensures.ok c.in_ok-define.ensures
    refl refl refl c.in_ok-append.ensures.items (add-one _) refl refl (c.in_ok-report.ensures.ok ∙ report_still _ _ c.args.definition c.is_off_base.ensures.grows c.requires.position c.requires.definition)
