use Rattle.std.proofs.Common.{append-nil}
use Rattle.texts.specs.Texts.{ascii}
use Rattle.texts.specs.Lines.{each_spaced, end_line}
use Rattle.texts.proofs.Laws.{begun, behind}
use Rattle.texts.proofs.walks.end_text.Goals as goal

pub returns-in-Device : goal.returns-in-Device
unfolding ascii end_line
returns-in-Device c =
    rw c.in-Device.is
    (begun _ _ (begun _ _ (begun _ _ c.new-text.ensures c.with.ensures) c.with_port.ensures) c.with_function.ensures)

pub returns-in-Function : goal.returns-in-Function
unfolding ascii end_line
returns-in-Function c =
    rw c.in-Function.is
    (begun _ _ (begun _ _ c.new-text.ensures c.with-in-Function.ensures) c.with_port-in-Function.ensures)

pub returns-in-Host : goal.returns-in-Host
unfolding ascii end_line
returns-in-Host c = rw c.in-Host.is (begun _ _ c.new-text.ensures c.with-in-Host.ensures)

pub returns-in-Unsupported : goal.returns-in-Unsupported
unfolding ascii end_line
returns-in-Unsupported c =
    rw c.in-Unsupported.is
    (begun _ _ (begun _ _ c.new-text.ensures c.with-in-Unsupported.ensures) c.with_port-in-Unsupported.ensures)

pub returns-in-Doubled : goal.returns-in-Doubled
unfolding ascii end_line each_spaced
returns-in-Doubled c =
    rw (c.in-Doubled.is, append-nil)
    (begun _ _ c.new-text.ensures
    (behind _ _ _ c.with-in-Doubled.ensures
    (behind _ _ _ c.with_port-in-Doubled.ensures c.with_port-in-Doubled-2.ensures)))
