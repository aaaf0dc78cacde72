mod Heights
mod Fitting
mod FaultPlaces
mod FirstFaultLemmas
mod WholeCheck
